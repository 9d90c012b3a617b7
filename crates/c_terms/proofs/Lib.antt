mod Rows
mod ShapeLemmas
