pub mod NamesKept
