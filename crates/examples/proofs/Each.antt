-- One claim after another. Assumes nothing.

infixr 2 ◌&◌
-- a claim, and those behind it
pub ◌&◌ : {A B : Type 0} → A → B → A × B
a & b = (a, b)
