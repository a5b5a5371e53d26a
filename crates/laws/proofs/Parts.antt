-- The parts of a product, handed on: what a law gives as a product, for a goal that names its clauses.

pub two_parts : {A B R : Type 0} → A × B → (A → B → R) → R
two_parts p f = f p.0 p.1

pub four_parts : {A B C D R : Type 0} → A × (B × (C × D)) → (A → B → C → D → R) → R
four_parts p f = f p.0 p.1.0 p.1.1.0 p.1.1.1
