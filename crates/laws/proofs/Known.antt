-- An answer that can be read back from what it tells is known by that. Assumes nothing.
use mathlib.Core.Path.{◌≡◌, sym, ap, ◌∙◌}

pub known : {A B : Type 0} (tell : A → B) (back : B → A) → ((a : A) → back (tell a) ≡ a) → (a b : A) → tell a ≡ tell b → a ≡ b
known tell back h a b e = sym (h a) ∙ ap back e ∙ h b
