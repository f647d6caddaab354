-- Results one after the other: a map of them, and those that are single elements. For any element type.
-- Assumes nothing.
use mathlib.Core.Path.{◌≡◌, sym, ap, ◌∙◌}
use mathlib.Core.List.{List, [], ◌∷◌, ◌++◌, map}
use Rattle.terms.specs.Keyed.{concat_map}
use Rattle.terms.proofs.KeyedLaws.{concat_map_nil, concat_map_cons, map_append}

-- a map of them
pub map-concat_map : {A B C : Type 0} (f : B → C) (g : A → List B) (l : List A) → map f (concat_map g l) ≡ concat_map (λ x. map f (g x)) l
map-concat_map f g [] = ap (map f) (concat_map_nil g) ∙ sym (concat_map_nil (λ x. map f (g x)))
map-concat_map {A} {B} {C} f g (x ∷ l) =
    ap (map f) (concat_map_cons g x l)
    ∙ map_append f (g x) (concat_map g l)
    ∙ ap (λ (r : List C). map f (g x) ++ r) (map-concat_map f g l)
    ∙ sym (concat_map_cons (λ x. map f (g x)) x l)

-- single elements
pub concat_map_one : {A B : Type 0} (f : A → B) (l : List A) → map f l ≡ concat_map (λ x. f x ∷ []) l
concat_map_one f [] = sym (concat_map_nil (λ x. f x ∷ []))
concat_map_one {A} {B} f (x ∷ l) = ap (λ (r : List B). f x ∷ r) (concat_map_one f l) ∙ sym (concat_map_cons (λ x. f x ∷ []) x l)

-- the same results
pub concat_map-same : {A B : Type 0} (f g : A → List B) → ((x : A) → f x ≡ g x) → (l : List A) → concat_map f l ≡ concat_map g l
concat_map-same f g e [] = concat_map_nil f ∙ sym (concat_map_nil g)
concat_map-same f g e (x ∷ l) = concat_map_cons f x l ∙ (λ j. e x j ++ concat_map-same f g e l j) ∙ sym (concat_map_cons g x l)

-- a map inside
pub concat_map-map : {A B C : Type 0} (f : A → B) (g : B → List C) (l : List A) → concat_map g (map f l) ≡ concat_map (λ x. g (f x)) l
concat_map-map f g [] = concat_map_nil g ∙ sym (concat_map_nil (λ x. g (f x)))
concat_map-map f g (x ∷ l) = concat_map_cons g (f x) (map f l) ∙ ap (λ m. g (f x) ++ m) (concat_map-map f g l) ∙ sym (concat_map_cons (λ x. g (f x)) x l)
