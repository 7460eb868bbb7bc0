pub mod NameLemmas
pub mod TokenLemmas
pub mod NumberLemmas
pub mod OperandLemmas
pub mod CommaLemmas
pub mod ClampLemmas
pub mod FormLemmas
pub mod StatementLemmas
pub mod ByteLemmas
pub mod ListingLemmas
pub mod LabelLemmas
pub mod DraftLemmas
pub mod LineLemmas
pub mod AssembleLemmas
mod LawOneListing
mod LawNumbers
mod LawTokens
mod LawWords
mod LawPlaces
mod LawOperands
mod LawForms
mod LawStatements
mod LawInstructions
mod LawRanges
mod LawLines
mod LawAssembles
mod LawEachListed
mod LawShort
mod LawOffsets
