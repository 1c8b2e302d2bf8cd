mod Looked
mod Written
