pub mod Static
