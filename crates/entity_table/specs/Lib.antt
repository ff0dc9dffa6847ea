pub mod AllAtOnce
