-- Exact rows and the entries of the superoperator: the rows agree at every row exactly if the entries are equal everywhere.
-- Assumes nothing.
use Prim.Native.Nat.{ℕ, ◌+◌, ◌*◌, ◌/◌, ◌%◌, ◌^◌, ◌<◌}
use native.Mathlib.Nat.{div-lt_iff_lt-mul, mod-lt, div-add-mod'}
use mathlib.Core.Path.{◌≡◌, sym, ap, ap₂, ◌∙◌}
use mathlib.Core.Bool.{false}
use mathlib.Core.List.{List, [], ◌∷◌, ◌++◌}
use mathlib.Core.Logic.{◌↔◌}
use lib.Arith.{digits_lt, digits_div, digits_mod}
use lib.Pow.{pow_pos}
use Rattle.letters.specs.Gauss.{G, ◌⊕◌}
use Rattle.items.specs.Record.{letter_at}
use Rattle.items.specs.declared.Items.{Items}
use Rattle.terms.specs.Keyed.{concat_map}
use Rattle.terms.proofs.KeyedLaws.{All}
use Rattle.master_equation.specs.Numbers.{halves}
use Rattle.rows.specs.Placing.{row_in}
use Rattle.row_entries.specs.PairColumns.{pair_column}
use Rattle.master_equation.specs.Sums.{Below, sum_at}
use Rattle.rows.proofs.PlacingLaws.{below_append, sum_append}
use Rattle.master_equation.proofs.SuperoperatorTheorems.{commutator-below, noise-below}
use Rattle.term_sets.specs.Matrices.{Fits}
use Rattle.noise_sets.specs.Pairs.{Key}
use Rattle.open_rows.proofs.SystemTheorems.{FitsPair, commutator_halves, noise_halves, commutator_theorem, noise_theorem}
use Rattle.superoperator.specs.Systems.{entry_of, SameEntries}
use Rattle.superoperator.proofs.KnownRows.{exact_rows_known}

-- the contributions to row r of terms with whole coefficients
unfoldable pub whole_contributions : ℕ → ℕ → List (Items × G) → List (Key × G) → List (ℕ × G)
whole_contributions n r h w = commutator_halves n (r / 2 ^ n) (r % 2 ^ n) h ++ noise_halves n (r / 2 ^ n) (r % 2 ^ n) w

-- two systems of such terms have the same rows
abbrev pub SameRows : ℕ → List (Items × G) → List (Key × G) → List (Items × G) → List (Key × G) → Type 0
SameRows n h w h' w' = (r : ℕ) → r < 2 ^ n * 2 ^ n → row_in halves false (whole_contributions n r h w) ≡ row_in halves false (whole_contributions n r h' w')

-- every column of results one after the other
below_all : {A : Type 0} (d : ℕ) (f : A → List (ℕ × G)) → ((x : A) → Below d (f x)) → (l : List A) → Below d (concat_map f l)
unfolding concat_map Below
below_all d f h [] = tt
below_all d f h (x ∷ l) = below_append d (f x) (concat_map f l) (h x) (below_all d f h l)

-- the halves of a row or column
upper : (n r : ℕ) → r < 2 ^ n * 2 ^ n → r / 2 ^ n < 2 ^ n
upper n r h = (div-lt_iff_lt-mul (pow_pos n)).1 h

lower : (n r : ℕ) → r % 2 ^ n < 2 ^ n
lower n r = mod-lt r (pow_pos n)

module _ (n : ℕ) (h : List (Items × G)) (w : List (Key × G)) where
  row_below : (r : ℕ) → r < 2 ^ n * 2 ^ n → Below (2 ^ n * 2 ^ n) (whole_contributions n r h w)
  unfolding whole_contributions
  row_below r b =
      below_append (2 ^ n * 2 ^ n) _ _
      (below_all (2 ^ n * 2 ^ n) _ (λ t. commutator-below halves n (r / 2 ^ n) (r % 2 ^ n) (letter_at t.0) t.1 (upper n r b) (lower n r)) h)
      (below_all (2 ^ n * 2 ^ n) _ (λ t. noise-below halves n (r / 2 ^ n) (r % 2 ^ n) (letter_at t.0.0) (letter_at t.0.1) t.1 (upper n r b) (lower n r)) w)

  -- the sum at column (a, b) is the entry there
  pub row-sum : All (λ t. Fits n t.0) h → All (λ t. FitsPair n t.0) w → (r a b : ℕ) → r < 2 ^ n * 2 ^ n → a < 2 ^ n → b < 2 ^ n
      → sum_at (pair_column n a b) (whole_contributions n r h w) ≡ entry_of n h w (r / 2 ^ n) (r % 2 ^ n) a b
  unfolding whole_contributions entry_of
  row-sum fh fw r a b hr ha hb =
      sum_append (pair_column n a b) _ _
      ∙ ap₂ ◌⊕◌
      (commutator_theorem n (r / 2 ^ n) (r % 2 ^ n) a b (upper n r hr) (lower n r) ha hb h fh)
      (noise_theorem n (r / 2 ^ n) (r % 2 ^ n) a b (upper n r hr) (lower n r) ha hb w fw)

module _ (n : ℕ) (h h' : List (Items × G)) (w w' : List (Key × G)) (fh : All (λ t. Fits n t.0) h) (fh' : All (λ t. Fits n t.0) h') (fw : All (λ t. FitsPair n t.0) w) (fw' : All (λ t. FitsPair n t.0) w') where
  entries-from_rows : SameRows n h w h' w' → SameEntries n h w h' w'
  entries-from_rows e k l a b hk hl ha hb =
      let r = k * 2 ^ n + l in
      let hr : r < 2 ^ n * 2 ^ n = digits_lt hk hl in
      let c = pair_column n a b in
      let hc : c < 2 ^ n * 2 ^ n = digits_lt ha hb in
      let known = (exact_rows_known (2 ^ n * 2 ^ n) (whole_contributions n r h w) (whole_contributions n r h' w') (row_below n h w r hr) (row_below n h' w' r hr)).0 (e r hr) c hc in
      sym (at h w) ∙ sym (row-sum n h w fh fw r a b hr ha hb) ∙ known ∙ row-sum n h' w' fh' fw' r a b hr ha hb ∙ at h' w'
    where
      at : (h : List (Items × G)) (w : List (Key × G)) → entry_of n h w ((k * 2 ^ n + l) / 2 ^ n) ((k * 2 ^ n + l) % 2 ^ n) a b ≡ entry_of n h w k l a b
      at h w = ap₂ (λ x y. entry_of n h w x y a b) (digits_div k hl) (digits_mod k hl)

  rows_from-entries : SameEntries n h w h' w' → SameRows n h w h' w'
  rows_from-entries e r hr =
      (exact_rows_known (2 ^ n * 2 ^ n) (whole_contributions n r h w) (whole_contributions n r h' w') (row_below n h w r hr) (row_below n h' w' r hr)).1
      (λ c hc.
      let a = c / 2 ^ n in
      let b = c % 2 ^ n in
      let q : pair_column n a b ≡ c = div-add-mod' c (2 ^ n) in
      ap (λ x. sum_at x (whole_contributions n r h w)) (sym q)
      ∙ row-sum n h w fh fw r a b hr (upper n c hc) (lower n c)
      ∙ e (r / 2 ^ n) (r % 2 ^ n) a b (upper n r hr) (lower n r) (upper n c hc) (lower n c)
      ∙ sym (row-sum n h' w' fh' fw' r a b hr (upper n c hc) (lower n c))
      ∙ ap (λ x. sum_at x (whole_contributions n r h' w')) q)

  pub rows_entries : SameRows n h w h' w' ↔ SameEntries n h w h' w'
  rows_entries = (entries-from_rows, rows_from-entries)
