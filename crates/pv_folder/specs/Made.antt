-- The changes that a host has made, if it tells them: which ones they are, in order, and what they leave (this
-- project's own).
use Rattle.std.specs.Prelude.{◌≡◌, List, [], ◌∷◌, ◌++◌, Option, Some, None, option_map}
use Rattle.std.proofs.Common.{refl, sym, ap, ◌∙◌, append-nil, append_assoc}
use Rattle.pv_folder.specs.Content.{Change, Content, Held, changed, held}

-- The objects after these changes, one after the other.
abbrev pub all_changed : List Change → Held → Held
all_changed [] t = t
all_changed (change ∷ changes) t = all_changed changes (changed change t)

-- A host has made these changes since, in order. If it did not tell its changes, it still does not.
abbrev pub AreRecorded : List Change → Option (List Change) → Option (List Change) → Type 0
AreRecorded changes old new = new ≡ option_map (λ made. made ++ changes) old

-- A host has made exactly these changes, if it tells them. Its content, if it tells it, is what they leave.
pub record HasMade (changes : List Change) (old new : Option Content) (before after : Option (List Change)) : Type 0 where
  pub recorded : AreRecorded changes before after
  pub left : option_map held new ≡ option_map (λ c. all_changed changes (held c)) old

-- ---- none, and some after others

recorded_none : (made : Option (List Change)) → AreRecorded [] made made
recorded_none None = refl
recorded_none (Some made) = ap Some (sym (append-nil made))

-- A host that has made no change has made the empty list of changes.
pub made_none : (content : Option Content) (made : Option (List Change)) → HasMade [] content content made made
made_none content made = record { recorded = recorded_none made; left = refl }

recorded_on : (x y : List Change) (a b c : Option (List Change)) → AreRecorded x a b → AreRecorded y b c → AreRecorded (x ++ y) a c
recorded_on x y a b c p q = q ∙ ap (option_map (λ made. made ++ y)) p ∙ by a
  where
    by : (o : Option (List Change)) → option_map (λ made. made ++ y) (option_map (λ made. made ++ x) o) ≡ option_map (λ made. made ++ (x ++ y)) o
    by None = refl
    by (Some made) = ap Some (append_assoc made x y)

all_changed_then : (x y : List Change) (t : Held) → all_changed (x ++ y) t ≡ all_changed y (all_changed x t)
all_changed_then [] y t = refl
all_changed_then (change ∷ x) y t = all_changed_then x y (changed change t)

left_on : (x y : List Change) (a b c : Option Content) → option_map held b ≡ option_map (λ c. all_changed x (held c)) a
    → option_map held c ≡ option_map (λ c. all_changed y (held c)) b → option_map held c ≡ option_map (λ c. all_changed (x ++ y) (held c)) a
left_on x y a b c p q = q ∙ of_held b ∙ ap (option_map (all_changed y)) p ∙ by a
  where
    of_held : (o : Option Content) → option_map (λ c. all_changed y (held c)) o ≡ option_map (all_changed y) (option_map held o)
    of_held None = refl
    of_held (Some c) = refl

    by : (o : Option Content) → option_map (all_changed y) (option_map (λ c. all_changed x (held c)) o) ≡ option_map (λ c. all_changed (x ++ y) (held c)) o
    by None = refl
    by (Some c) = ap Some (sym (all_changed_then x y (held c)))

-- Changes that were made one list after another were made as one list.
pub made_on : (x y : List Change) (a b c : Option Content) (k l m : Option (List Change)) → HasMade x a b k l → HasMade y b c l m → HasMade (x ++ y) a c k m
made_on x y a b c k l m p q = record { recorded = recorded_on x y k l m p.recorded q.recorded; left = left_on x y a b c p.left q.left }
