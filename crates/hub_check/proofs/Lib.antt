pub mod CountsLines
