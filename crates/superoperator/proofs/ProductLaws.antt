-- Products on spins below n that are not empty, of either kind: their matrices are orthogonal exactly where the records differ, and have no trace.
-- Assumes nothing.
use mathlib.Core.Path.{◌≡◌, sym, ◌∙◌, ap, subst}
use mathlib.Core.Bool.{true, false, cond}
use Prim.Native.Nat.{ℕ, ◌≤◌, ◌<◌}
use native.Mathlib.Decide.{dec_lt}
use native.Mathlib.Omega.{arith}
use lib.Dec.{leb, eqb}
use borrow.Author.Tests.{leb-true, eqb-true, eqb-false, eq-eqb, ne_eqb, not-true}
use Rattle.letters.specs.Tests.{every}
use Rattle.letters.specs.Gauss.{𝟘, 𝟙, ◌⊗◌}
use Rattle.letters.specs.Matrices.{letters_of, matrix}
use Rattle.letters.specs.declared.Kind.{Kind}
use Rattle.letters.proofs.TestLaws.{and_left, and_right, bool_ext, every-at, every_intro, every_false}
use Rattle.items.specs.Lists.{at}
use Rattle.items.specs.Record.{valid, letter_at, reach, same_items}
use Rattle.items.specs.declared.Items.{Items}
use Rattle.items.proofs.RecordLaws.{valid-at, letter_code, letter_here, letter-beyond, site_below-reach}
use Rattle.items.proofs.SameLaws.{same_self, same-equal}
use Rattle.items.proofs.Canonical.{extensional}
use Rattle.master_equation.specs.Equation.{δ}
use Rattle.superoperator.specs.Systems.{on_spins}
use Rattle.superoperator.proofs.InnerLaws.{inner}
use Rattle.superoperator.proofs.Orthogonality.{dimension, orthogonal, trace_none}

-- what the test says
pub record OnSpins (n : ℕ) (p : Items) : Type 0 where
  pub valid_there : valid p ≡ true
  pub reach_most : reach p ≤ n
  pub some : 0 < p.count

pub on_spins_lem : (n : ℕ) (p : Items) → on_spins n p ≡ true → OnSpins n p
unfolding on_spins
on_spins_lem n p e =
    let r = and_right (valid p) _ e in
    let ne = eqb-false p.count _ (not-true _ (and_right (leb (reach p) n) _ r)) in
    record { valid_there = and_left (valid p) _ e; reach_most = leb-true (reach p) n (and_left (leb (reach p) n) _ r); some = omega arith }

module _ (n : ℕ) (p : Items) (h : on_spins n p ≡ true) where
  -- its letters are codes
  pub codes : (s : ℕ) → s < n → letter_at p s < 4
  codes s l = let v = (on_spins_lem n p h).valid_there in omega (arith, letter_code p v s)

  -- and not all of them are 0
  not_identity : every n (λ s. eqb (letter_at p s) 0) ≡ false
  not_identity =
      let o = on_spins_lem n p h in
      let v = o.valid_there in
      let s = at p.sites 0 in
      every_false n (λ s. eqb (letter_at p s) 0) s
      (omega (arith, site_below-reach p v 0 o.some))
      (ne_eqb (letter_at p s) 0 (λ e. omega (arith, letter_here p v 0 o.some, (valid-at p v 0 o.some).letter_there)))

  -- two products with the same letters below n are the same
  same_letters : (q : Items) → on_spins n q ≡ true → every n (λ s. eqb (letter_at p s) (letter_at q s)) ≡ same_items q p
  same_letters q g =
      let o = on_spins_lem n p h in
      let u = on_spins_lem n q g in
      bool_ext
      (every n (λ s. eqb (letter_at p s) (letter_at q s)))
      (same_items q p)
      (λ e. subst (λ (r : Items). same_items r p ≡ true) (extensional p q o.valid_there u.valid_there (agree e)) (same_self p))
      (λ e. every_intro n (λ s. eqb (letter_at p s) (letter_at q s)) (λ s l. eq-eqb (letter_at p s) (letter_at q s) (ap (λ (r : Items). letter_at r s) (sym (same-equal q p e)))))
    where
      agree : every n (λ s. eqb (letter_at p s) (letter_at q s)) ≡ true → (s : ℕ) → letter_at p s ≡ letter_at q s
      agree e s =
          elim (dec_lt s n) [
            | yes l ↦ eqb-true (letter_at p s) (letter_at q s) (every-at n (λ s. eqb (letter_at p s) (letter_at q s)) e s l)
            | no l ↦
                (let o = on_spins_lem n p h in
                let u = on_spins_lem n q g in
                letter-beyond p o.valid_there s (omega (arith, o.reach_most)) ∙ sym (letter-beyond q u.valid_there s (omega (arith, u.reach_most))))
          ]

  pub product_orthogonal : (kind : Kind) (q : Items) → on_spins n q ≡ true
      → inner n (matrix (letters_of kind) n (letter_at p)) (matrix (letters_of kind) n (letter_at q)) ≡ dimension n ⊗ cond (same_items q p) 𝟙 𝟘
  product_orthogonal kind q g =
      orthogonal kind n (letter_at p) codes (letter_at q) (λ s l. let v = (on_spins_lem n q g).valid_there in omega (arith, letter_code q v s))
      ∙ ap (λ t. dimension n ⊗ cond t 𝟙 𝟘) (same_letters q g)

  pub product_traceless : (kind : Kind) → inner n (matrix (letters_of kind) n (letter_at p)) δ ≡ 𝟘
  product_traceless kind = trace_none kind n (letter_at p) codes not_identity
