pub mod Layouts
pub mod Look
pub mod Recovery
