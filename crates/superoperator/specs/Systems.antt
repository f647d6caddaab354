-- Open systems as lists of terms with whole coefficients: the entries of the superoperator, and when two systems hold the same.
-- Lindblad 1976, On the generators of quantum dynamical semigroups; Gorini, Kossakowski, Sudarshan 1976, Completely positive dynamical
-- semigroups of N-level systems; document 01, `Rows` and `The book for condition 3`.
use Rattle.std.specs.Prelude.{◌≡◌, Bool, true, not, ◌&&◌, List, ℕ, ◌^◌, ◌<◌, leb, eqb}
use Rattle.letters.specs.Gauss.{G, 𝟘, ◌⊕◌, eq_G}
use Rattle.items.specs.Record.{valid, letter_at, reach, same_items, same_key}
use Rattle.items.specs.declared.Items.{Items}
use Rattle.terms.specs.Keyed.{has, each}
use Rattle.terms.specs.Setting.{coefficient_at}
use Rattle.terms.specs.Gaussian.{gaussian, weighted}
use Rattle.master_equation.specs.Equation.{commutator, dissipator}

-- the terms c P of a Hamiltonian
abbrev pub Hamiltonian : Type 0
Hamiltonian = List (Items × G)

-- the terms of noise, each a pair (L, R) of decoherence products with its coefficient
abbrev pub Noise : Type 0
Noise = List ((Items × Items) × G)

-- the entry of -i (H ρ - ρ H) + Σ c (L ρ R† - 1/2 R† L ρ - 1/2 ρ R† L) at row (k, l) and column (a, b), in halves
unfoldable pub entry_of : ℕ → Hamiltonian → Noise → ℕ → ℕ → ℕ → ℕ → G
entry_of n h w k l a b =
    weighted (λ p. commutator n (letter_at p) k l a b) h ⊕ weighted (λ p. dissipator n (letter_at p.0) (letter_at p.1) k l a b) w

-- two systems have the same entries at every row and column
abbrev pub SameEntries : ℕ → Hamiltonian → Noise → Hamiltonian → Noise → Type 0
SameEntries n h w h' w' =
    (k l a b : ℕ) → k < 2 ^ n → l < 2 ^ n → a < 2 ^ n → b < 2 ^ n → entry_of n h w k l a b ≡ entry_of n h' w' k l a b

-- "Pages are the same when they have the same keys and, under each, parts that are equal"
pub record SameTerms {K : Type 0} (same : K → K → Bool) (l m : List (K × G)) : Type 0 where
  pub keys : (k : K) → has (λ t. same t.0 k) l ≡ has (λ t. same t.0 k) m
  pub coefficients : (k : K) → coefficient_at (gaussian K same) k l ≡ coefficient_at (gaussian K same) k m

-- a product with its sites below n, and not the empty one
unfoldable pub on_spins : ℕ → Items → Bool
on_spins n p = valid p && (leb (reach p) n && not (eqb p.count 0))

-- a pair of them: "neither empty"
unfoldable pub pair_on_spins : ℕ → Items × Items → Bool
pair_on_spins n p = on_spins n p.0 && on_spins n p.1

-- what number 0 lets pass: good keys, no key twice, and no coefficient that is zero
pub record SoundTerms {K : Type 0} (same : K → K → Bool) (good : K → Bool) (l : List (K × G)) : Type 0 where
  pub keys : each (λ t ts. good t.0) l ≡ true
  pub different : each (λ t ts. not (has (λ u. same u.0 t.0) ts)) l ≡ true
  pub nonzero : each (λ t ts. not (eq_G t.1 𝟘)) l ≡ true

-- a system over n spins
pub record Sound (n : ℕ) (h : Hamiltonian) (w : Noise) : Type 0 where
  pub hamiltonian : SoundTerms same_items (on_spins n) h
  pub noise : SoundTerms same_key (pair_on_spins n) w
