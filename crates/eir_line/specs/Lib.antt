pub mod Line
pub mod Bytes
pub mod Numbers
pub mod Words
pub mod Grammar
pub mod Reading
pub mod Spelling
