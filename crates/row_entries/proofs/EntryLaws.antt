-- The entries found from the products' masks: their columns are in the matrix and their powers below 4, so that their pairs fit 64 bits;
-- of a product that fits the spins they are those of its letters. Assumes nothing.
use mathlib.Core.Path.{◌≡◌, refl, sym, ap, ap₂, subst, ◌∙◌}
use mathlib.Core.Bool.{true}
use mathlib.Core.List.{[], ◌∷◌}
use Prim.Native.Nat.{ℕ, ◌+◌, ◌-◌, ◌*◌, ◌/◌, ◌%◌, ◌^◌, ◌≤◌, ◌<◌, min}
use native.Mathlib.Nat.{zero-add, add_assoc, add-mod-mod, add-mul-mod_self_right, mod-lt, mod-eq_of_lt, div-lt_iff_lt-mul, min-le_right}
use native.Mathlib.Omega.{arith}
use lib.Arith.{digits_lt}
use lib.Bits.{bit_and, bit_xor}
use lib.Count.{ones}
use lib.Pow.{pow-add, pow_pos}
use Rattle.letters.specs.Matrices.{Letters, pauli, decoherence, letters_of}
use Rattle.letters.specs.Rows.{column_of, row_power}
use Rattle.letters.specs.declared.Kind.{Kind}
use Rattle.letters.specs.declared.Kind.TheVariants.{Pauli, Decoherence}
use Rattle.letters.proofs.ParityLaws.{ones_xor, and_xor}
use Rattle.letters.proofs.Letterings.{column_of_lt}
use Rattle.items.specs.Record.{valid, letter_at, reach}
use Rattle.row_entries.specs.Answers.{most_spins}
use Rattle.items.specs.Masks.{masks_of, flip_of, sign_of}
use Rattle.row_entries.specs.MaskEntries.{entry_from_masks}
use Rattle.items.specs.declared.Items.{Items}
use Rattle.row_entries.proofs.RowLaws.{few-spins}
use Rattle.row_entries.proofs.MaskEntryLaws.{power_of_y_pauli, power_of_y_decoherence, from_masks_power_lt, from_masks_inside}
use Rattle.row_entries.specs.Entries.{operator_entry, commutator_entries, noise_entries}

-- ---- bounds

-- a column of a matrix over n spins, and a power of i
pub record Small (n : ℕ) (x : ℕ × ℕ) : Type 0 where
  pub column : x.0 < 2 ^ n
  pub power : x.1 < 4

-- every entry is small, whatever the masks
pub entry_small : (M : Letters) (p n r : ℕ) → Small n (operator_entry M p n r)
unfolding operator_entry
entry_small M p n r = record { column = mod-lt _ (pow_pos n); power = from_masks_power_lt M p r }

-- ---- pairs fit 64 bits

-- the count of the rows of a superoperator
pub square_few : {size : ℕ} (n : ℕ) → n ≤ most_spins → size ≡ 2 ^ min n most_spins * 2 ^ min n most_spins → size ≡ 2 ^ n * 2 ^ n
square_few n h e = few-spins (λ k. 2 ^ k * 2 ^ k) n h e

-- the first half of any row of 64 bits with a column
pub row_fits : (spins row x : ℕ) → row < 2 ^ 64
    → row / 2 ^ min spins most_spins * 2 ^ min spins most_spins + x % 2 ^ min spins most_spins < 2 ^ 64
row_fits spins row x h = go (min spins most_spins) (min-le_right spins most_spins)
  where
    go : (n : ℕ) → n ≤ most_spins → row / 2 ^ n * 2 ^ n + x % 2 ^ n < 2 ^ 64
    go n few =
        let s : 2 ^ (64 - n + n) ≡ 2 ^ (64 - n) * 2 ^ n = pow-add 2 (64 - n) n in
        let o : 64 ≡ 64 - n + n = omega arith in
        let t : 2 ^ 64 ≡ 2 ^ (64 - n + n) = ap (λ k. 2 ^ k) o in
        let q : row / 2 ^ n < 2 ^ (64 - n) = (div-lt_iff_lt-mul (pow_pos n)).1 (omega arith) in
        let p : row / 2 ^ n * 2 ^ n + x % 2 ^ n < 2 ^ (64 - n) * 2 ^ n = digits_lt q (mod-lt x (pow_pos n)) in
        omega arith

-- ---- powers of i by counts of bits

-- fours fall away
spread : (c u v : ℕ) → (c + 3 * (u % 4) + v % 4) % 4 ≡ (c + 3 * u + v) % 4
spread c u v = sym (ap (λ (x : ℕ). x % 4) (go u v) ∙ add-mul-mod_self_right (c + 3 * (u % 4) + v % 4) (3 * (u / 4) + v / 4) 4)
  where
    go : (u v : ℕ) → c + 3 * u + v ≡ c + 3 * (u % 4) + v % 4 + (3 * (u / 4) + v / 4) * 4
    go u v = omega arith

-- of signs only their parity counts
even : (b : ℕ) → 2 * (b % 2) ≡ 2 * b % 4
even b = omega arith

-- of the letters Y and the signs of a Pauli product
y_power_lem : (c a b : ℕ) → (c + 3 * (a % 4) + 2 * (b % 2)) % 4 ≡ (c + (3 * a + 2 * b) % 4) % 4
y_power_lem c a b = ap (λ (x : ℕ). (c + 3 * (a % 4) + x) % 4) (even b) ∙ spread c a (2 * b) ∙ ap (λ (x : ℕ). x % 4) (add_assoc c (3 * a) (2 * b)) ∙ sym (add-mod-mod c (3 * a + 2 * b) 4)

-- of two products that have no power but their signs
jump_power : (a b x y : ℕ) → 2 * (ones (bit_xor a b) % 2) % 4 ≡ ((0 * x + 2 * ones a) % 4 + (0 * y + 2 * ones b) % 4) % 4
jump_power a b x y = go (ones a) (ones b) (ones (bit_xor a b)) (ones_xor a b)
  where
    go : (a b c : ℕ) → c % 2 ≡ (a + b) % 2 → 2 * (c % 2) % 4 ≡ ((0 * x + 2 * a) % 4 + (0 * y + 2 * b) % 4) % 4
    go a b c e = omega arith

-- of the conjugate of one and the other, in one row
half_power : (m s t x y : ℕ) → 2 * (ones (bit_and m (bit_xor s t)) % 2) % 4 ≡ (3 * ((0 * x + 2 * ones (bit_and m t)) % 4) + (0 * y + 2 * ones (bit_and m s)) % 4) % 4
half_power m s t x y =
    go (ones (bit_and m s)) (ones (bit_and m t)) (ones (bit_and m (bit_xor s t))) (ap (λ (x : ℕ). ones x % 2) (and_xor m s t) ∙ ones_xor (bit_and m s) (bit_and m t))
    ∙ sym (ap (λ (u : ℕ). (u + (0 * y + 2 * ones (bit_and m s)) % 4) % 4) (sym (zero-add _)) ∙ spread 0 (0 * x + 2 * ones (bit_and m t)) (0 * y + 2 * ones (bit_and m s)))
  where
    go : (a b c : ℕ) → c % 2 ≡ (a + b) % 2 → 2 * (c % 2) % 4 ≡ (0 + 3 * (0 * x + 2 * b) + (0 * y + 2 * a)) % 4
    go a b c e = omega arith

-- ---- the entries of a row from the masks

-- by the flips f and the signs s of the masks p; b is the column of row l
pub commutator_by_masks : (p n row : ℕ)
    → let k = row / 2 ^ n in let l = row % 2 ^ n in let f = flip_of p in let s = sign_of p in let b = bit_xor l f % 2 ^ n in
    (bit_xor k f % 2 ^ n * 2 ^ n + l, (3 + 3 * (ones (bit_and f s) % 4) + 2 * (ones (bit_and k s) % 2)) % 4)
    ∷ (k * 2 ^ n + b, (1 + 3 * (ones (bit_and f s) % 4) + 2 * (ones (bit_and b s) % 2)) % 4) ∷ []
    ≡ commutator_entries p n row
unfolding commutator_entries operator_entry entry_from_masks
commutator_by_masks p n row =
    let k = row / 2 ^ n in
    let b = bit_xor (row % 2 ^ n) (flip_of p) % 2 ^ n in
    let ys = ones (bit_and (flip_of p) (sign_of p)) in
    rw power_of_y_pauli
    (ap₂ (λ (x y : ℕ). (bit_xor k (flip_of p) % 2 ^ n * 2 ^ n + row % 2 ^ n, x) ∷ (k * 2 ^ n + b, y) ∷ []) (y_power_lem 3 ys (ones (bit_and k (sign_of p)))) (y_power_lem 1 ys (ones (bit_and b (sign_of p)))))

-- by the flips and the signs of the masks p and q; m is the column of row k of R, and w that of row l of L
pub noise_by_masks : (p q n row : ℕ)
    → let k = row / 2 ^ n in let l = row % 2 ^ n in let m = bit_xor k (flip_of q) % 2 ^ n in let w = bit_xor l (flip_of p) % 2 ^ n in let s = bit_xor (sign_of p) (sign_of q) in
    (bit_xor k (flip_of p) % 2 ^ n * 2 ^ n + bit_xor l (flip_of q) % 2 ^ n, 2 * (ones (bit_xor (bit_and k (sign_of p)) (bit_and l (sign_of q))) % 2) % 4)
    ∷ (bit_xor m (flip_of p) % 2 ^ n * 2 ^ n + l, 2 * (ones (bit_and m s) % 2) % 4)
    ∷ (k * 2 ^ n + bit_xor w (flip_of q) % 2 ^ n, 2 * (ones (bit_and w s) % 2) % 4) ∷ []
    ≡ noise_entries p q n row
unfolding noise_entries operator_entry entry_from_masks
noise_by_masks p q n row =
    let k = row / 2 ^ n in
    let l = row % 2 ^ n in
    let m = bit_xor k (flip_of q) % 2 ^ n in
    let w = bit_xor l (flip_of p) % 2 ^ n in
    let x = ones (bit_and (flip_of p) (sign_of p)) in
    let y = ones (bit_and (flip_of q) (sign_of q)) in
    rw (
      power_of_y_decoherence,
      jump_power (bit_and k (sign_of p)) (bit_and l (sign_of q)) x y,
      half_power m (sign_of p) (sign_of q) y x,
      half_power w (sign_of p) (sign_of q) y x,
    )

-- ---- a product that fits n spins

-- the letters of one of the two kinds
pub record OfKind (M : Letters) : Type 0 where
  pub kind : Kind
  pub is : letters_of kind ≡ M

pub of_kind : (kind : Kind) → OfKind (letters_of kind)
of_kind kind = record { kind = kind; is = refl }

pub pauli_kind : OfKind pauli
unfolding letters_of
pauli_kind = of_kind Pauli

pub decoherence_kind : OfKind decoherence
unfolding letters_of
decoherence_kind = of_kind Decoherence

-- the entry of a row is that of the product's letters
pub entry_inside : {M : Letters} → OfKind M → (p : Items) (n r : ℕ) → valid p ≡ true → reach p ≤ n → r < 2 ^ n
    → operator_entry M (masks_of p) n r ≡ (column_of M n (letter_at p) r, row_power M n (letter_at p) r)
unfolding operator_entry
entry_inside o p n r v s l =
    subst (λ M. operator_entry M (masks_of p) n r ≡ (column_of M n (letter_at p) r, row_power M n (letter_at p) r)) o.is (go o.kind)
  where
    go : (kind : Kind) → operator_entry (letters_of kind) (masks_of p) n r ≡ (column_of (letters_of kind) n (letter_at p) r, row_power (letters_of kind) n (letter_at p) r)
    go kind =
        rw (
          from_masks_inside kind p v r n s l,
          mod-eq_of_lt (column_of_lt (letters_of kind) n (letter_at p) r),
        ) refl

-- a product that is valid, with every site below n
pub record Within (n : ℕ) (p : Items) : Type 0 where
  pub held : valid p ≡ true
  pub sites_below_lem : reach p ≤ n

module _ {M : Letters} (o : OfKind M) (n : ℕ) (p : Items) (w : Within n p) (r : ℕ) (l : r < 2 ^ n) where
  pub column_inside : column_of M n (letter_at p) r ≡ (operator_entry M (masks_of p) n r).0
  column_inside = sym (ap (λ (x : ℕ × ℕ). x.0) (entry_inside o p n r w.held w.sites_below_lem l))

  pub power_inside : row_power M n (letter_at p) r ≡ (operator_entry M (masks_of p) n r).1
  power_inside = sym (ap (λ (x : ℕ × ℕ). x.1) (entry_inside o p n r w.held w.sites_below_lem l))
