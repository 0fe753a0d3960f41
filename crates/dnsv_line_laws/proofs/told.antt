-- The forms of lines, and that the first words of each line tell its form.
pub mod Forms
pub mod Lines
pub mod Reasons
pub mod Rows
pub mod Tables
