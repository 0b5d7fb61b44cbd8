-- The columns that are kept of an image.
use Rattle.std.specs.Prelude.{◌≡◌, ◌≢◌, Bool, List, length}

-- an image with these bits, if it has any, is the one whose columns are kept
abbrev pub HoldsFor : List Bool → List Bool → Type 0
HoldsFor kept bits = length bits ≢ 0 → kept ≡ bits
