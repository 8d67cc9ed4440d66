pub mod Laying
pub mod Filling
