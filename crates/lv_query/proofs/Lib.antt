pub mod WholeRows
