pub mod MoreNames
