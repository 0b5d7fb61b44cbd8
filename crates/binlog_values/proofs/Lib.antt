-- The proofs of this crate.
pub mod JsonbElements
pub mod JsonbInside
pub mod JsonbUnfolding
pub mod JsonbWalk
pub mod JsonbFirstFault
pub mod JsonbDenoting
pub mod JsonbCounting
pub mod JsonbParts
pub mod JsonbNumbers
pub mod JsonbScalars
pub mod JsonbLimits
pub mod JsonbOpaques
pub mod JsonbClones
pub mod JsonbStacked
pub mod JsonbParsing
pub mod LentDocuments
