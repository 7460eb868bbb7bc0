mod AssemblyLemmas
mod HexLemmas
mod InputLemmas
mod VerdictLemmas
