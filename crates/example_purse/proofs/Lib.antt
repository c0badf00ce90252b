pub mod Places
pub mod Facts
pub mod PurseOutline
pub mod PurseLaws
pub mod WrongPurses
