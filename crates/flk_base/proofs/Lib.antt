pub mod HexLemmas
pub mod PutLemmas
pub mod TakenLemmas
