-- Masks that were seen, and their marks: an array with `true` at the place of each. Only helpers of the entries cite them.
use Rattle.std.specs.Prelude.{◌≡◌, ℕ, ◌+◌, ◌*◌, ◌%◌, ◌<◌, Bool, true, false, ◌&&◌, List, eqb, length, get_or}
use Rattle.terms.specs.Keyed.{has}
use Rattle.term_sets.specs.declared.masks.Masks.{Masks}

-- the place of a mark
abbrev pub mark_of : Masks → ℕ
mark_of x = (x.left % 251 + 5 * (x.right % 251)) % 251

-- two masks are the same
abbrev pub same_masks : Masks → Masks → Bool
same_masks x y = eqb x.left y.left && eqb x.right y.right

-- a list holds masks
abbrev pub holds : List Masks → Masks → Bool
holds l x = has (λ y. same_masks y x) l

-- each of the masks is marked
pub record Marked (masks : List Masks) (marks : List Bool) : Type 0 where
  pub each : (j : ℕ) → j < length masks → get_or marks (mark_of (get_or masks j (record { left = 0; right = 0 }))) false ≡ true
