-- Lines with whole parts as terms with whole coefficients: lines are the same exactly if these terms are, and the terms of a valid set are sound.
-- Assumes nothing.
use mathlib.Core.Path.{◌≡◌, refl, sym, ap, ◌∙◌}
use mathlib.Core.Bool.{Bool, true, false, ◌||◌, cond, true≢false}
use mathlib.Core.List.{List, [], ◌∷◌, map}
use mathlib.Core.Logic.{◌↔◌}
use lib.Ieee.{eq}
use Rattle.letters.specs.Gauss.{G, 𝟘, eq_G}
use Rattle.letters.proofs.GaussLaws.{eq_G_true}
use Rattle.letters.proofs.TestLaws.{and_true, and_left, and_right}
use Rattle.complex.specs.Complex.{plus_zero, is_zero}
use Rattle.complex.specs.declared.Complex.{Complex}
use Rattle.terms.specs.Keyed.{has, held, each, head_or}
use Rattle.terms.specs.Setting.{coefficient_at, keyed}
use Rattle.terms.specs.Gaussian.{gaussian}
use Rattle.terms.proofs.KeyedLaws.{each_head, each_tail}
use Rattle.superoperator.specs.Systems.{SameTerms}
use Rattle.complex.specs.Wholes.{is_whole, both_whole}
use Rattle.exact_rows.specs.ExactRows.{gauss_of}
use Rattle.condition3.specs.ReferenceModel.{Line, real_part, on_line}
use Rattle.condition3.specs.Condition3.{same_parts, has_line, SameLines}
use Rattle.complex.proofs.WholeLaws.{whole-equal, zero-whole, zero-parts}

-- ---- one number

zero_gauss : gauss_of (real_part plus_zero) ≡ 𝟘
unfolding gauss_of 𝟘
zero_gauss = λ j. record { re = zero-parts j; im = zero-parts j }

zero-both : both_whole (real_part plus_zero) ≡ true
unfolding both_whole
zero-both = and_true zero-whole zero-whole

-- whole numbers that are equal as numbers are one, and back
module _ (x y : Complex) (hx : both_whole x ≡ true) (hy : both_whole y ≡ true) where
  re-whole : is_whole x.re ≡ true
  unfolding both_whole
  re-whole = and_left (is_whole x.re) (is_whole x.im) hx

  im-whole : is_whole x.im ≡ true
  unfolding both_whole
  im-whole = and_right (is_whole x.re) (is_whole x.im) hx

  re_whole' : is_whole y.re ≡ true
  unfolding both_whole
  re_whole' = and_left (is_whole y.re) (is_whole y.im) hy

  im_whole' : is_whole y.im ≡ true
  unfolding both_whole
  im_whole' = and_right (is_whole y.re) (is_whole y.im) hy

  pub gauss_same : same_parts x y ≡ true → gauss_of x ≡ gauss_of y
  unfolding same_parts gauss_of
  gauss_same e =
      let r = (whole-equal x.re y.re re-whole re_whole').0 (and_left (eq x.re y.re) (eq x.im y.im) e) in
      let i = (whole-equal x.im y.im im-whole im_whole').0 (and_right (eq x.re y.re) (eq x.im y.im) e) in
      λ j. record { re = r j; im = i j }

  pub same_gauss : gauss_of x ≡ gauss_of y → same_parts x y ≡ true
  unfolding same_parts gauss_of
  same_gauss e =
      and_true ((whole-equal x.re y.re re-whole re_whole').1 (ap (λ z. z.re) e)) ((whole-equal x.im y.im im-whole im_whole').1 (ap (λ z. z.im) e))

-- a whole number that is not zero in both parts
pub gauss_nonzero : (z : Complex) → both_whole z ≡ true → is_zero z ≡ false → eq_G (gauss_of z) 𝟘 ≡ false
unfolding is_zero same_parts
gauss_nonzero z h e = go (eq_G (gauss_of z) 𝟘) refl
  where
    go : (b : Bool) → eq_G (gauss_of z) 𝟘 ≡ b → b ≡ false
    go true t = absurd (true≢false (sym (same_gauss z (real_part plus_zero) h zero-both (eq_G_true (gauss_of z) 𝟘 t ∙ sym zero_gauss)) ∙ e))
    go false t = refl

-- ---- lines

-- a line as a term with a whole coefficient
abbrev pub whole_line : {K : Type 0} → Line K → K × G
whole_line x = (x.0, gauss_of x.1)

abbrev pub whole_lines : {K : Type 0} → List (Line K) → List (K × G)
whole_lines l = map whole_line l

module _ {K : Type 0} (same : K → K → Bool) where
  pub has-whole : (k : K) (l : List (Line K)) → has (λ t. same t.0 k) (whole_lines l) ≡ has_line same k l
  unfolding has
  has-whole k [] = refl
  has-whole k (x ∷ xs) = ap (λ b. same x.0 k || b) (has-whole k xs)

  coefficient-whole : (k : K) (l : List (Line K)) → coefficient_at (gaussian K same) k (whole_lines l) ≡ gauss_of (on_line same k l)
  unfolding coefficient_at held head_or on_line
  coefficient-whole k [] = sym zero_gauss
  coefficient-whole k (x ∷ xs) = go (same x.0 k) (coefficient-whole k xs)
    where
      go : (b : Bool) → head_or (λ t. t.1) 𝟘 (held (keyed (gaussian K same) k) (whole_lines xs)) ≡ gauss_of (on_line same k xs)
          → head_or (λ t. t.1) 𝟘 (cond b (whole_line x ∷ []) (held (keyed (gaussian K same) k) (whole_lines xs))) ≡ gauss_of (cond b x.1 (on_line same k xs))
      go true e = refl
      go false e = e

  -- what stands on lines of whole numbers is whole
  line_whole : (k : K) (l : List (Line K)) → each (λ x xs. both_whole x.1) l ≡ true → both_whole (on_line same k l) ≡ true
  unfolding on_line
  line_whole k [] h = zero-both
  line_whole k (x ∷ xs) h = go (same x.0 k) (line_whole k xs (each_tail (λ x xs. both_whole x.1) x xs h))
    where
      go : (b : Bool) → both_whole (on_line same k xs) ≡ true → both_whole (cond b x.1 (on_line same k xs)) ≡ true
      go true e = each_head (λ x xs. both_whole x.1) x xs h
      go false e = e

  -- without a line there is 0
  line_none : (k : K) (l : List (Line K)) → has_line same k l ≡ false → on_line same k l ≡ real_part plus_zero
  unfolding has on_line
  line_none k [] e = refl
  line_none k (x ∷ xs) e = go (same x.0 k) (line_none k xs) e
    where
      go : (b : Bool) → (has_line same k xs ≡ false → on_line same k xs ≡ real_part plus_zero) → (b || has_line same k xs) ≡ false → cond b x.1 (on_line same k xs) ≡ real_part plus_zero
      go true h e = absurd (true≢false e)
      go false h e = h e

  module _ (l m : List (Line K)) (hl : each (λ x xs. both_whole x.1) l ≡ true) (hm : each (λ x xs. both_whole x.1) m ≡ true) where
    terms_from_lines : SameLines same l m → SameTerms same (whole_lines l) (whole_lines m)
    terms_from_lines p = record {
      keys = λ k. has-whole k l ∙ p.keys k ∙ sym (has-whole k m);
      coefficients = λ k. coefficient-whole k l ∙ under k (has_line same k l) refl ∙ sym (coefficient-whole k m);
    }
      where
        under : (k : K) (b : Bool) → has_line same k l ≡ b → gauss_of (on_line same k l) ≡ gauss_of (on_line same k m)
        under k true e = gauss_same (on_line same k l) (on_line same k m) (line_whole k l hl) (line_whole k m hm) (p.parts k e)
        under k false e = ap gauss_of (line_none k l e ∙ sym (line_none k m (sym (p.keys k) ∙ e)))

    lines_from_terms : SameTerms same (whole_lines l) (whole_lines m) → SameLines same l m
    lines_from_terms t = record {
      keys = λ k. sym (has-whole k l) ∙ t.keys k ∙ has-whole k m;
      parts = λ k e. same_gauss (on_line same k l) (on_line same k m) (line_whole k l hl) (line_whole k m hm) (sym (coefficient-whole k l) ∙ t.coefficients k ∙ coefficient-whole k m);
    }

    pub lines_same : SameTerms same (whole_lines l) (whole_lines m) ↔ SameLines same l m
    lines_same = (lines_from_terms, terms_from_lines)
