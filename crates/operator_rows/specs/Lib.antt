pub mod OperatorRows
