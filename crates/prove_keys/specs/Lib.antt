pub mod Compares
pub mod Keys
pub mod Known
pub mod Tables
