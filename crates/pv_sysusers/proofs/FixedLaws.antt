-- The numbers that lines fix, line after line.
use Rattle.std.proofs.Common.{◌≡◌, ℕ, ◌+◌, ◌<◌, Bool, true, false, List, [], ◌∷◌, drop, get_or, length, Option, Some, None, is_some, option_map, add-one, refl, sym, ap, ◌∙◌, cond}
use Rattle.std.specs.Option.{option_or}
use Rattle.std.specs.Str.{bytes_eq}
use Rattle.std.proofs.Math.Seq.{drop-cons}
use Rattle.std.proofs.lemmas.Slice.Eq.{bytes_eq-Decides}
use Rattle.pv_text.specs.declared.place.Place.{Place}
use Rattle.pv_sysusers.specs.Needs.{fixed_for}
use Rattle.pv_sysusers.specs.declared.needs.Need.{Need}
use Rattle.pv_accounts.proofs.Rereading.{or_assoc}
use Rattle.pv_path.proofs.Tests.{option_or-none}

-- the first line and the others
fixed_first : (need : Need) (needs : List Need) (name : List ℕ) → fixed_for (need ∷ needs) name ≡ option_or (fixed_for (need ∷ []) name) (fixed_for needs name)
fixed_first need needs name = by_test (bytes_eq need.name name) refl (need.number) refl
  where
    by_test : (b : Bool) → bytes_eq need.name name ≡ b → (o : Option ℕ) → need.number ≡ o → fixed_for (need ∷ needs) name ≡ option_or (fixed_for (need ∷ []) name) (fixed_for needs name)
    by_test true e (Some n) d = rw (e, d) refl
    by_test true e None d = rw (e, d) refl
    by_test false e o d = rw e refl

pub fixed_next : (needs : List Need) (i : ℕ) (need : Need) (before after : List ℕ → Option (ℕ × Place)) → i < length needs → need ≡ get_or needs i need
    → ((name : List ℕ) → after name ≡ option_or (before name) (fixed_for (need ∷ []) name))
    → ((name : List ℕ) → option_or (before name) (fixed_for (drop i needs) name) ≡ fixed_for needs name)
    → (name : List ℕ) → option_or (after name) (fixed_for (drop (i + 1) needs) name) ≡ fixed_for needs name
fixed_next needs i need before after below is step way name =
    let e : drop i needs ≡ get_or needs i need ∷ drop (i + 1) needs = rw (drop-cons needs i need below, add-one i) refl in
    let whole : fixed_for (drop i needs) name ≡ option_or (fixed_for (need ∷ []) name) (fixed_for (drop (i + 1) needs) name) =
    ap (λ (ns : List Need). fixed_for ns name) e ∙ ap (λ (n : Need). fixed_for (n ∷ drop (i + 1) needs) name) (sym is) ∙ fixed_first need (drop (i + 1) needs) name in
    ap (λ (o : Option (ℕ × Place)). option_or o (fixed_for (drop (i + 1) needs) name)) (step name)
    ∙ or_assoc (before name) (fixed_for (need ∷ []) name) (fixed_for (drop (i + 1) needs) name)
    ∙ ap (λ (o : Option (ℕ × Place)). option_or (before name) o) (sym whole) ∙ way name

-- what a map shows with one value more
pub put_seen : {A B : Type 0} (f : A → B) (b : Bool) (v : A) (o : Option A) → option_map f (cond b (Some v) o) ≡ cond b (Some (f v)) (option_map f o)
put_seen f true v o = refl
put_seen f false v o = refl

-- a line that is the first to fix a number
pub fixes_first : (need : Need) (n : ℕ) (before after : List ℕ → Option (ℕ × Place)) → need.number ≡ Some n → is_some (before need.name) ≡ false
    → ((name : List ℕ) → after name ≡ cond (bytes_eq need.name name) (Some (n, need.place)) (before name)) → (name : List ℕ) → after name ≡ option_or (before name) (fixed_for (need ∷ []) name)
fixes_first need n before after number new step name = step name ∙ by_test (bytes_eq need.name name) refl
  where
    none_or : (o p : Option (ℕ × Place)) → is_some o ≡ false → p ≡ option_or o p
    none_or None p h = refl
    none_or (Some x) p h = cc

    by_test : (b : Bool) → bytes_eq need.name name ≡ b → cond b (Some (n, need.place)) (before name) ≡ option_or (before name) (fixed_for (need ∷ []) name)
    by_test true e =
        let same : need.name ≡ name = (bytes_eq-Decides need.name name).0 e in
        rw (e, number) (none_or (before name) (Some (n, need.place)) (ap (λ (m : List ℕ). is_some (before m)) (sym same) ∙ new))
    by_test false e = rw e (sym (option_or-none (before name)))
