pub mod Relevance
