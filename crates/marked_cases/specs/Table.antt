-- The table of the cases that document 01 marks ●, line by line. The factor of a product, a conjugate or a conversion stands there as its power of i
-- (document 02): 1 is 0, i is 1, -1 is 2, -i is 3.
use Rattle.std.specs.Prelude.{ℕ, List, [], ◌∷◌, map, pos, length}
use Rattle.refusal.specs.Refusals.{gives, done}
use Rattle.letters.specs.Gauss.{G, 𝟘, 𝟙, −𝟙, i⁻, ◌⊗◌, i^}
use Rattle.letters.specs.Matrices.{letters_of}
use Rattle.letters.specs.declared.Kind.{Kind}
use Rattle.letters.specs.declared.Kind.TheVariants.{Pauli, Decoherence}
use Rattle.items.specs.Lists.{padded}
use Rattle.items.specs.Record.{capacity}
use Rattle.ordering.specs.Orders.{less, greater}
use Rattle.items.specs.declared.Items.{Items}
use Rattle.master_equation.specs.Equation.{𝟚}
use Rattle.master_equation.specs.Sums.{value_at}
use Rattle.marked_cases.specs.Outcomes as cases
use Rattle.marked_cases.specs.Outcomes.{Input, multiply_single, multiply, set_pauli, hermitian_conjugate, convert, cmp, product_row, noise_row, commutator_row, Outcome, f64, up_to, entries_of, matrix_of}

-- ---- products

-- the letters' codes; iY is that of Y, in a decoherence product
abbrev I : ℕ
I = 0

abbrev X : ℕ
X = 1

abbrev Y : ℕ
Y = 2

abbrev iY : ℕ
iY = 2

abbrev Z : ℕ
Z = 3

-- the product with these letters on these sites
abbrev on : List (ℕ × ℕ) → Items
on l = record { count = length l; sites = padded capacity (map (λ e. e.0) l); letters = padded capacity (map (λ e. e.1) l) }

-- those of the cases, each letter with its site: X0 is document 01's 0X
abbrev empty : Items
empty = on []

abbrev X0 : Items
X0 = on ((0, X) ∷ [])

abbrev Y0 : Items
Y0 = on ((0, Y) ∷ [])

abbrev iY0 : Items
iY0 = on ((0, iY) ∷ [])

abbrev Z0 : Items
Z0 = on ((0, Z) ∷ [])

abbrev X0Z2 : Items
X0Z2 = on ((0, X) ∷ (2, Z) ∷ [])

abbrev iY0iY1 : Items
iY0iY1 = on ((0, iY) ∷ (1, iY) ∷ [])

abbrev Y0Y1 : Items
Y0Y1 = on ((0, Y) ∷ (1, Y) ∷ [])

abbrev Z0X1 : Items
Z0X1 = on ((0, Z) ∷ (1, X) ∷ [])

abbrev X0X2 : Items
X0X2 = on ((0, X) ∷ (2, X) ∷ [])

-- ---- outcomes

-- k times a number: 6 · i⁻ is -6i
infixl 70 ◌·◌
abbrev ◌·◌ : ℕ → G → G
k · z = record { re = pos k; im = pos 0 } ⊗ z

-- i to a power times a letter of a kind, and times a product of a kind
abbrev letter : ℕ → Kind → ℕ → Outcome
letter k kind l = cases.letter (gives (l, k)) (entries_of 2 (λ x y. i^ k ⊗ letters_of kind l x y))

abbrev product : ℕ → Kind → Items → Outcome
product k kind p = cases.product (done, (k, p)) (entries_of 4 (λ r c. i^ k ⊗ matrix_of kind p r c))

-- a product, and an order, by the rules
abbrev changed : Items → Outcome
changed p = cases.changed (done, p)

abbrev below : Outcome
below = cases.order (gives less)

abbrev above : Outcome
above = cases.order (gives greater)

-- these entries (column, number) among so many columns: delivered as f64; in halves; and 0 in the matrix's other columns
abbrev row : ℕ → List (ℕ × G) → Outcome
row columns l =
    cases.row
    (gives (map (λ e. (e.0, f64 e.1)) l))
    (map (λ e. (e.0, 𝟚 ⊗ e.1)) l)
    (map (λ c. 𝟚 ⊗ value_at c l) (up_to columns))

-- ---- the table

infix 68 ◌⟼◌
abbrev ◌⟼◌ : Input → Outcome → Input × Outcome
i ⟼ o = (i, o)

unfoldable pub table : List (Input × Outcome)
table =
    -- pauli_product.rs
    -- X-as-Y = Z with factor i; Y-as-X = Z with factor -i: of letters, and of products on site 0
    multiply_single Pauli X Y ⟼ letter 1 Pauli Z
    ∷ multiply_single Pauli Y X ⟼ letter 3 Pauli Z
    ∷ multiply Pauli X0 Y0 ⟼ product 1 Pauli Z0
    ∷ multiply Pauli Y0 X0 ⟼ product 3 Pauli Z0
    -- `set_pauli` with Identity removes an occupied site and does nothing on a free one
    ∷ set_pauli X0Z2 2 I ⟼ changed X0
    ∷ set_pauli X0Z2 1 I ⟼ changed X0Z2
    -- decoherence_product.rs
    -- iY·iY = Identity, -1. X·iY = Z, -1
    ∷ multiply_single Decoherence iY iY ⟼ letter 2 Decoherence I
    ∷ multiply_single Decoherence X iY ⟼ letter 2 Decoherence Z
    ∷ multiply Decoherence iY0 iY0 ⟼ product 2 Decoherence empty
    ∷ multiply Decoherence X0 iY0 ⟼ product 2 Decoherence Z0
    -- `hermitian_conjugate` keeps the letters; its sign is -1 for an odd number of iY: 0iY gives -1, 0iY1iY gives +1
    ∷ hermitian_conjugate iY0 ⟼ product 2 Decoherence iY0
    ∷ hermitian_conjugate iY0iY1 ⟼ product 0 Decoherence iY0iY1
    -- 0iY converts to 0Y with factor i, and 0Y back with -i; 0iY1iY gives -1
    ∷ convert Decoherence iY0 ⟼ product 1 Pauli Y0
    ∷ convert Pauli Y0 ⟼ product 3 Decoherence iY0
    ∷ convert Decoherence iY0iY1 ⟼ product 2 Pauli Y0Y1
    -- `cmp`: 0Z1X is above 0X2X here, and below it as Pauli products
    ∷ cmp Decoherence Z0X1 X0X2 ⟼ above
    ∷ cmp Pauli Z0X1 X0X2 ⟼ below
    -- row 0 of 0iY is column 1, factor 1; row 1 is column 0, factor -1
    ∷ product_row 1 0 iY0 ⟼ row 2 ((1, 𝟙) ∷ [])
    ∷ product_row 1 1 iY0 ⟼ row 2 ((0, −𝟙) ∷ [])
    -- pauli_noise_operator.rs
    -- pair (X0, X0), 2, n = 1, row 0: column 0 is -2, column 3 is 2
    ∷ noise_row 1 0 X0 X0 (2 · 𝟙) ⟼ row 4 ((0, 2 · −𝟙) ∷ (3, 2 · 𝟙) ∷ [])
    -- pair (X0, iY0), 2, n = 1, row 0: column 0 is 2, column 3 is 2
    ∷ noise_row 1 0 X0 iY0 (2 · 𝟙) ⟼ row 4 ((0, 2 · 𝟙) ∷ (3, 2 · 𝟙) ∷ [])
    -- pair (Z0, Z0), 1, n = 1, row 0: column 0 is 0 and is kept
    ∷ noise_row 1 0 Z0 Z0 𝟙 ⟼ row 4 ((0, 𝟘) ∷ [])
    -- mod.rs, pauli_open_system.rs
    -- Hamiltonian 3·Z0, n = 1: commutator row 1 is column 1, -6i; row 0 is empty
    ∷ commutator_row 1 1 Z0 (pos 3) ⟼ row 4 ((1, 6 · i⁻) ∷ [])
    ∷ commutator_row 1 0 Z0 (pos 3) ⟼ row 4 []
    ∷ []
