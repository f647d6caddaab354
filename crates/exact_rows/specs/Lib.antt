pub mod ExactRows
