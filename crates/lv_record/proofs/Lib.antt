mod Exact
mod Layers
mod Sums
mod Kept
mod Lists
mod Lengths
mod Made
mod Examples
