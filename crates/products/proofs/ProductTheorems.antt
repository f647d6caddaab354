-- What the accepted answers of the entries on products mean: over any n spins above every site, in matrices.
-- Assumes nothing.
use mathlib.Core.Path.{◌≡◌, refl, sym, ap, ap₂, ◌∙◌, subst}
use mathlib.Core.Bool.{Bool, true, false, not, cond}
use mathlib.Core.List.{List, [], ◌∷◌}
use mathlib.Core.Logic.{◌⊎◌, inl, inr, ⊎_elim}
use Prim.Native.Nat.{ℕ, suc, ◌+◌, ◌-◌, ◌%◌, ◌^◌, ◌≤◌, ◌<◌, max}
use native.Mathlib.Nat.{le-max_left, le-max_right, max-le}
use native.Mathlib.Decide.{dec_lt}
use native.Mathlib.Omega.{arith}
use lib.Dec.{ltb, leb, eqb}
use borrow.Author.Tests.{ltb-false, leb-false, ne_eqb, not-false}
use Rattle.refusal.specs.Refusals.{Said, gives, refuses, done}
use Rattle.letters.specs.Tests.{first_from}
use Rattle.letters.specs.Gauss.{𝟘, ◌⊗◌, conj, i^}
use Rattle.letters.specs.Sums.{Σ, total}
use Rattle.letters.specs.Matrices.{Letters, letters_of, matrix}
use Rattle.letters.specs.Single.{letter_of, power_of, times, conjugated, converted}
use Rattle.letters.specs.Rows.{column_of, row_power}
use Rattle.letters.specs.declared.Kind.{Kind}
use Rattle.letters.specs.Answers.{other, highest_letter}
use Rattle.letters.proofs.TestLaws.{first_before}
use Rattle.letters.proofs.TableLaws.{closed, converts}
use Rattle.letters.proofs.Letterings.{matrix-same, multiply-matrix, conjugate-matrix, convert-matrix, join_matrix, row-matrix, column_of_lt, HasIdentity}
use Rattle.letters.proofs.Codes.{conjugated_plain, converted_plain}
use Rattle.items.specs.Lists.{at}
use Rattle.items.specs.Record.{highest_site, valid, letter_at, reach, reach_of, record_of, update, empty_product}
use Rattle.merging.specs.SiteAnswers.{set_answer}
use Rattle.merging.specs.ProductAnswers.{multiply_answer, first_occupied, concatenate_answer}
use Rattle.phases.specs.Answers.{conjugate_answer, convert_answer}
use Rattle.row_entries.specs.Answers.{row_answer, most_spins}
use Rattle.items.specs.declared.Items.{Items}
use Rattle.items.proofs.MaskLaws.{letter_lt}
use Rattle.items.proofs.RecordLaws.{letter_code, letter-beyond, letter_occupied, reach_most}
use Rattle.items.proofs.Canonical.{fits_span, record_valid, record_letters, record_beyond}
use Rattle.items.proofs.Cursor.{total-above}

-- an answer that is given passed the refusal before it
given_past : {A : Type 0} (b : Bool) (k : ℕ) (l : List ℕ) (y : A) (z : Said A) → cond b (refuses k l) z ≡ gives y → (b ≡ false) × (z ≡ gives y)
given_past false k l y z e = (refl, e)
given_past true k l y z e = let h : ◌≡◌ {A = ℕ} 0 1 = cc in absurd (omega arith)

-- the same of an answer with a record beside it
done_past : {A : Type 0} (b : Bool) (k : ℕ) (l : List ℕ) (x y : A) (z : Said Unit × A) → cond b (refuses k l, x) z ≡ (done, y) → (b ≡ false) × (z ≡ (done, y))
done_past false k l x y z e = (refl, e)
done_past {A} true k l x y z e =
    let h = ap (λ (z : Said Unit × A). z.0) e in
    let z : ◌≡◌ {A = ℕ} 0 1 = cc in
    absurd (omega arith)

-- letters and powers that are zero from the span on: the record of the letters stands for them over any n spins from the span on
module _ (M : Letters) (h k : ℕ → ℕ) (span : ℕ) (hz : (s : ℕ) → span ≤ s → h s ≡ 0) (kz : (s : ℕ) → span ≤ s → k s ≡ 0) where
  record_has : (s : ℕ) → letter_at (record_of h span) s ≡ h s
  record_has s = elim (dec_lt s span) [ yes l ↦ record_letters h span s l | no l ↦ record_beyond h span s (omega arith) ∙ sym (hz s (omega arith)) ]

  in_record : (n : ℕ) → span ≤ n → (r c : ℕ)
      → i^ (total k n % 4) ⊗ matrix M n h r c ≡ i^ (total k span % 4) ⊗ matrix M n (letter_at (record_of h span)) r c
  in_record n l r c =
      ap₂ ◌⊗◌ (ap (λ (x : ℕ). i^ (x % 4)) (total-above k span n l (λ s a b. kz s a)))
      (matrix-same M n h (letter_at (record_of h span)) (λ s a. sym (record_has s)) r c)

-- the record of letters up to 3, on sites up to the highest, is valid
codes_valid : (h : ℕ → ℕ) (span : ℕ) → ((s : ℕ) → h s ≤ highest_letter) → span ≤ suc highest_site → valid (record_of h span) ≡ true
codes_valid h span c m = record_valid h span (λ s l. c s) m (fits_span h span m)

letter_most : (e : ℕ) → letter_of e ≤ highest_letter
letter_most e = omega arith

-- ---- setting

module _ (p : Items) (s l : ℕ) where
  record SetTo (x : Items) : Type 0 where
    held : valid p ≡ true
    site : s ≤ highest_site
    letter : l ≤ highest_letter
    items : record_of (update (letter_at p) s l) (max (reach p) (suc s)) ≡ x

  set_to : (x : Items) → set_answer p s l ≡ (done, x) → SetTo x
  unfolding set_answer
  set_to x e =
      let z₃ : Said Unit × Items = (done, record_of (update (letter_at p) s l) (max (reach p) (suc s))) in
      let z₂ : Said Unit × Items = cond (ltb highest_letter l) (refuses 2 [], p) z₃ in
      let a = done_past (not (valid p)) 0 [] p x (cond (ltb highest_site s) (refuses 1 (s ∷ []), p) z₂) e in
      let b = done_past (ltb highest_site s) 1 (s ∷ []) p x z₂ a.1 in
      let c = done_past (ltb highest_letter l) 2 [] p x z₃ b.1 in
      record { held = not-false _ a.0; site = ltb-false _ _ b.0; letter = ltb-false _ _ c.0; items = ap (λ (z : Said Unit × Items). z.1) c.1 }

  -- the answer has the letter on the site, and elsewhere the letters that were there
  pub set_theorem : (x : Items) → set_answer p s l ≡ (done, x) → (t : ℕ) → letter_at x t ≡ update (letter_at p) s l t
  set_theorem x e t =
      let a = set_to x e in
      ap (λ (y : Items). letter_at y t) (sym a.items)
      ∙ elim (dec_lt t (max (reach p) (suc s))) [
        | yes m ↦ record_letters (update (letter_at p) s l) (max (reach p) (suc s)) t m
        | no m ↦
            record_beyond (update (letter_at p) s l) (max (reach p) (suc s)) t (omega arith)
            ∙ sym (ap (λ (b : Bool). cond b l (letter_at p t)) (ne_eqb t s (λ q. omega (arith, le-max_right (reach p) (suc s))))
            ∙ letter-beyond p a.held t (omega (arith, le-max_left (reach p) (suc s))))
      ]

  pub set_valid : (x : Items) → set_answer p s l ≡ (done, x) → valid x ≡ true
  set_valid x e =
      let a = set_to x e in
      subst (λ (y : Items). valid y ≡ true) a.items
      (codes_valid (update (letter_at p) s l) (max (reach p) (suc s)) (λ t. go (eqb t s) (letter_at p t) a.letter (letter_code p a.held t))
      (let last : suc s ≤ suc highest_site = omega (arith, a.site) in max-le (reach_most p a.held) last))
    where
      go : (b : Bool) (f : ℕ) → l ≤ highest_letter → f ≤ highest_letter → cond b l f ≤ highest_letter
      go true f h k = h
      go false f h k = k

-- ---- multiplication

module _ (kind : Kind) (p q : Items) where
  abbrev M : Letters
  M = letters_of kind

  abbrev product_letter : ℕ → ℕ
  product_letter s = letter_of (times M (letter_at p s) (letter_at q s))

  abbrev product_power : ℕ → ℕ
  product_power s = power_of (times M (letter_at p s) (letter_at q s))

  abbrev product_answer : Said Unit × (ℕ × Items)
  product_answer = (done, (total product_power (reach_of p q) % 4, record_of product_letter (reach_of p q)))

  record Multiplied (k : ℕ) (x : Items) : Type 0 where
    left : valid p ≡ true
    right : valid q ≡ true
    power : total product_power (reach_of p q) % 4 ≡ k
    items : record_of product_letter (reach_of p q) ≡ x

  multiplied : (k : ℕ) (x : Items) → multiply_answer M p q ≡ (done, (k, x)) → Multiplied k x
  unfolding multiply_answer
  multiplied k x e =
      let a = done_past (not (valid p)) 0 [] (0, p) (k, x) (cond (not (valid q)) (refuses 0 [], (0, p)) product_answer) e in
      let b = done_past (not (valid q)) 0 [] (0, p) (k, x) product_answer a.1 in
      record {
        left = not-false _ a.0;
        right = not-false _ b.0;
        power = ap (λ (z : Said Unit × (ℕ × Items)). z.1.0) b.1;
        items = ap (λ (z : Said Unit × (ℕ × Items)). z.1.1) b.1;
      }

  -- the identity on both sides gives the identity, with no power
  both_free : valid p ≡ true → valid q ≡ true → (s : ℕ) → reach_of p q ≤ s → times M (letter_at p s) (letter_at q s) ≡ 0
  both_free v w s l =
      ap₂ (times M) (letter-beyond p v s (omega (arith, le-max_left (reach p) (reach q)))) (letter-beyond q w s (omega (arith, le-max_right (reach p) (reach q))))
      ∙ (closed kind).times_zero 0 (omega arith)

  -- the matrix product of two products is i^k times the matrix of the answer
  pub multiply_theorem : (k : ℕ) (x : Items) → multiply_answer M p q ≡ (done, (k, x)) → (n : ℕ) → reach_of p q ≤ n → (r c : ℕ)
      → Σ (2 ^ n) (λ m. matrix M n (letter_at p) r m ⊗ matrix M n (letter_at q) m c) ≡ i^ k ⊗ matrix M n (letter_at x) r c
  multiply_theorem k x e n l r c =
      let a = multiplied k x e in
      let z = both_free a.left a.right in
      multiply-matrix M (closed kind) n (letter_at p) (letter_at q) (λ s h. letter_lt p a.left s) (λ s h. letter_lt q a.right s) r c
      ∙ in_record M product_letter product_power (reach_of p q) (λ s h. ap letter_of (z s h)) (λ s h. ap power_of (z s h)) n l r c
      ∙ ap₂ (λ (k : ℕ) (x : Items). i^ k ⊗ matrix M n (letter_at x) r c) a.power a.items

  pub multiply-valid : (k : ℕ) (x : Items) → multiply_answer M p q ≡ (done, (k, x)) → valid x ≡ true
  multiply-valid k x e =
      let a = multiplied k x e in
      subst (λ (y : Items). valid y ≡ true) a.items
      (codes_valid product_letter (reach_of p q) (λ s. letter_most (times M (letter_at p s) (letter_at q s)))
      (max-le (reach_most p a.left) (reach_most q a.right)))

-- ---- conjugation

module _ (kind : Kind) (p : Items) where
  abbrev N : Letters
  N = letters_of kind

  abbrev conjugate_letter : ℕ → ℕ
  conjugate_letter s = letter_of (conjugated N (letter_at p s))

  abbrev conjugate_power : ℕ → ℕ
  conjugate_power s = power_of (conjugated N (letter_at p s))

  -- the conjugate transpose of a product's matrix is i^k times the matrix of the answer
  pub conjugate_theorem : (k : ℕ) (x : Items) → conjugate_answer N p ≡ (done, (k, x)) → (n : ℕ) → reach p ≤ n → (r c : ℕ)
      → conj (matrix N n (letter_at p) c r) ≡ i^ k ⊗ matrix N n (letter_at x) r c
  unfolding conjugate_answer
  conjugate_theorem k x e n l r c =
      let a = done_past (not (valid p)) 0 [] (0, p) (k, x) (done, (total conjugate_power (reach p) % 4, record_of conjugate_letter (reach p))) e in
      let free : (s : ℕ) → reach p ≤ s → (conjugate_letter s ≡ 0) × (conjugate_power s ≡ 0) =
      λ s h. let z = letter-beyond p (not-false _ a.0) s h in
      let w = conjugated_plain kind (letter_at p s) (omega arith) (omega arith) in (sym w.0 ∙ z, sym w.1) in
      conjugate-matrix N (closed kind) n (letter_at p) (λ s h. letter_lt p (not-false _ a.0) s) r c
      ∙ in_record N conjugate_letter conjugate_power (reach p) (λ s h. (free s h).0) (λ s h. (free s h).1) n l r c
      ∙ ap (λ (z : Said Unit × (ℕ × Items)). i^ z.1.0 ⊗ matrix N n (letter_at z.1.1) r c) a.1

  pub conjugate-valid : (k : ℕ) (x : Items) → conjugate_answer N p ≡ (done, (k, x)) → valid x ≡ true
  unfolding conjugate_answer
  conjugate-valid k x e =
      let a = done_past (not (valid p)) 0 [] (0, p) (k, x) (done, (total conjugate_power (reach p) % 4, record_of conjugate_letter (reach p))) e in
      subst (λ (z : Said Unit × (ℕ × Items)). valid z.1.1 ≡ true) a.1
      (codes_valid conjugate_letter (reach p) (λ s. letter_most (conjugated N (letter_at p s))) (reach_most p (not-false _ a.0)))

-- ---- conversion

module _ (kind : Kind) (p : Items) where
  abbrev From : Letters
  From = letters_of kind

  abbrev Into : Letters
  Into = letters_of (other kind)

  abbrev convert_letter : ℕ → ℕ
  convert_letter s = letter_of (converted From Into (letter_at p s))

  abbrev convert_power : ℕ → ℕ
  convert_power s = power_of (converted From Into (letter_at p s))

  -- a product's matrix is i^k times the matrix of the answer in the letters of the other kind
  pub convert_theorem : (k : ℕ) (x : Items) → convert_answer From Into p ≡ (done, (k, x)) → (n : ℕ) → reach p ≤ n → (r c : ℕ)
      → matrix From n (letter_at p) r c ≡ i^ k ⊗ matrix Into n (letter_at x) r c
  unfolding convert_answer
  convert_theorem k x e n l r c =
      let a = done_past (not (valid p)) 0 [] (0, empty_product) (k, x) (done, (total convert_power (reach p) % 4, record_of convert_letter (reach p))) e in
      let v = not-false _ a.0 in
      let free : (s : ℕ) → reach p ≤ s → (convert_letter s ≡ 0) × (convert_power s ≡ 0) =
      λ s h. let z = letter-beyond p v s h in
      let w = converted_plain kind (letter_at p s) (omega arith) (omega arith) in (sym w.0 ∙ z, sym w.1) in
      convert-matrix From Into (converts kind (other kind)) n (letter_at p) (λ s h. letter_lt p v s) r c
      ∙ in_record Into convert_letter convert_power (reach p) (λ s h. (free s h).0) (λ s h. (free s h).1) n l r c
      ∙ ap (λ (z : Said Unit × (ℕ × Items)). i^ z.1.0 ⊗ matrix Into n (letter_at z.1.1) r c) a.1

  pub convert-valid : (k : ℕ) (x : Items) → convert_answer From Into p ≡ (done, (k, x)) → valid x ≡ true
  unfolding convert_answer
  convert-valid k x e =
      let a = done_past (not (valid p)) 0 [] (0, empty_product) (k, x) (done, (total convert_power (reach p) % 4, record_of convert_letter (reach p))) e in
      subst (λ (z : Said Unit × (ℕ × Items)). valid z.1.1 ≡ true) a.1
      (codes_valid convert_letter (reach p) (λ s. letter_most (converted From Into (letter_at p s))) (reach_most p (not-false _ a.0)))

-- ---- joining

module _ (p q : Items) where
  abbrev join_letter : ℕ → ℕ
  join_letter s = letter_at p s + letter_at q s

  record Joined (x : Items) : Type 0 where
    left : valid p ≡ true
    right : valid q ≡ true
    apart : (s : ℕ) → (letter_at p s ≡ 0) ⊎ (letter_at q s ≡ 0)
    items : record_of join_letter (reach_of p q) ≡ x

  -- with no place of q on a site that p occupies, each site is free in one of them
  free_in_one : ltb (first_occupied p q) q.count ≡ false → (s : ℕ) → (letter_at p s ≡ 0) ⊎ (letter_at q s ≡ 0)
  unfolding first_occupied
  free_in_one h s = elim (dec_lt 0 (letter_at q s)) [
    | yes l ↦
        (let o = letter_occupied q s l in
        let past : q.count ≤ first_from (λ j. ltb 0 (letter_at p (at q.sites j))) q.count 0 = ltb-false _ _ h in
        let b = first_before (λ j. ltb 0 (letter_at p (at q.sites j))) q.count 0 o.0 (omega arith) (omega (arith, past, o.1)) in
        inl (omega (arith, ltb-false 0 (letter_at p (at q.sites o.0)) b, ap (letter_at p) o.2)))
    | no l ↦ inr (omega arith)
  ]

  joined : (x : Items) → concatenate_answer p q ≡ (done, x) → Joined x
  unfolding concatenate_answer
  joined x e =
      let z₃ : Said Unit × Items = (done, record_of join_letter (reach_of p q)) in
      let s = at q.sites (first_occupied p q) ∷ [] in
      let z₂ : Said Unit × Items = cond (ltb (first_occupied p q) q.count) (refuses 3 s, p) z₃ in
      let a = done_past (not (valid p)) 0 [] p x (cond (not (valid q)) (refuses 0 [], p) z₂) e in
      let b = done_past (not (valid q)) 0 [] p x z₂ a.1 in
      let c = done_past (ltb (first_occupied p q) q.count) 3 s p x z₃ b.1 in
      record { left = not-false _ a.0; right = not-false _ b.0; apart = free_in_one c.0; items = ap (λ (z : Said Unit × Items). z.1) c.1 }

  pub concatenate_valid : (x : Items) → concatenate_answer p q ≡ (done, x) → valid x ≡ true
  concatenate_valid x e =
      let a = joined x e in
      subst (λ (y : Items). valid y ≡ true) a.items
      (codes_valid join_letter (reach_of p q)
      (λ s. ⊎_elim (λ z. omega (arith, letter_code q a.right s)) (λ z. omega (arith, letter_code p a.left s)) (a.apart s))
      (max-le (reach_most p a.left) (reach_most q a.right)))

  -- the matrix of the answer is the product of the two matrices, in either order
  module _ (x : Items) (e : concatenate_answer p q ≡ (done, x)) (M : Letters) (I : HasIdentity M) (n : ℕ) (l : reach_of p q ≤ n) (r c : ℕ) where
    answer-has : (s : ℕ) → letter_at x s ≡ join_letter s
    answer-has s =
        let a = joined x e in
        ap (λ (y : Items). letter_at y s) (sym a.items)
        ∙ record_has M join_letter (λ s. 0) (reach_of p q)
        (λ s h. omega (arith, letter-beyond p a.left s (omega (arith, le-max_left (reach p) (reach q))), letter-beyond q a.right s (omega (arith, le-max_right (reach p) (reach q)))))
        (λ s h. refl) s

    pub concatenate_theorem : Σ (2 ^ n) (λ m. matrix M n (letter_at p) r m ⊗ matrix M n (letter_at q) m c) ≡ matrix M n (letter_at x) r c
    concatenate_theorem =
        join_matrix M I n (letter_at p) (letter_at q) (λ s h. (joined x e).apart s) r c
        ∙ matrix-same M n join_letter (letter_at x) (λ s h. sym (answer-has s)) r c

    pub concatenate_theorem_reversed : Σ (2 ^ n) (λ m. matrix M n (letter_at q) r m ⊗ matrix M n (letter_at p) m c) ≡ matrix M n (letter_at x) r c
    concatenate_theorem_reversed =
        join_matrix M I n (letter_at q) (letter_at p) (λ s h. ⊎_elim inr inl ((joined x e).apart s)) r c
        ∙ matrix-same M n (λ s. letter_at q s + letter_at p s) (letter_at x) (λ s h. omega (arith, answer-has s)) r c

-- ---- the row

module _ (kind : Kind) (p : Items) (n r : ℕ) where
  record Rowed (c k : ℕ) : Type 0 where
    held : valid p ≡ true
    spins : n ≤ most_spins
    row_below : r < 2 ^ n
    sites_below_lem : reach p ≤ n
    column : column_of (letters_of kind) n (letter_at p) r ≡ c
    power : row_power (letters_of kind) n (letter_at p) r ≡ k

  rowed : (c k : ℕ) → row_answer (letters_of kind) p n r ≡ gives (c, k) → Rowed c k
  unfolding row_answer
  rowed c k e =
      let z₄ : Said (ℕ × ℕ) = gives (column_of (letters_of kind) n (letter_at p) r, row_power (letters_of kind) n (letter_at p) r) in
      let z₃ : Said (ℕ × ℕ) = cond (ltb n (reach p)) (refuses 8 ((reach p - 1) ∷ [])) z₄ in
      let z₂ : Said (ℕ × ℕ) = cond (leb (2 ^ n) r) (refuses 9 []) z₃ in
      let a = given_past (not (valid p)) 0 [] (c, k) (cond (ltb most_spins n) (refuses 7 []) z₂) e in
      let b = given_past (ltb most_spins n) 7 [] (c, k) z₂ a.1 in
      let d = given_past (leb (2 ^ n) r) 9 [] (c, k) z₃ b.1 in
      let f = given_past (ltb n (reach p)) 8 ((reach p - 1) ∷ []) (c, k) z₄ d.1 in
      let g : ◌≡◌ {A = ℕ × ℕ} (column_of (letters_of kind) n (letter_at p) r, row_power (letters_of kind) n (letter_at p) r) (c, k) = cc in
      record {
        held = not-false _ a.0;
        spins = ltb-false _ _ b.0;
        row_below = leb-false _ _ d.0;
        sites_below_lem = ltb-false _ _ f.0;
        column = ap (λ (z : ℕ × ℕ). z.0) g;
        power = ap (λ (z : ℕ × ℕ). z.1) g;
      }

  -- the answer's column and factor are the one entry of the row that is not zero
  pub row_theorem : (c k : ℕ) → row_answer (letters_of kind) p n r ≡ gives (c, k) → (y : ℕ) → y < 2 ^ n
      → matrix (letters_of kind) n (letter_at p) r y ≡ cond (eqb y c) (i^ k) 𝟘
  row_theorem c k e y l =
      let a = rowed c k e in
      row-matrix (letters_of kind) (closed kind) n (letter_at p) (λ s h. letter_lt p a.held s) r y l
      ∙ ap₂ (λ (c k : ℕ). cond (eqb y c) (i^ k) 𝟘) a.column a.power

  -- the column is in the matrix
  pub row_column : (c k : ℕ) → row_answer (letters_of kind) p n r ≡ gives (c, k) → c < 2 ^ n
  row_column c k e = subst (λ (c : ℕ). c < 2 ^ n) (rowed c k e).column (column_of_lt (letters_of kind) n (letter_at p) r)
