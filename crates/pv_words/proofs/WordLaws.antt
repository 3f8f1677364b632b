-- Words by their dashes, and what they bring.
use Rattle.std.proofs.Common.{◌≡◌, ◌∙◌, ◌+◌, ◌||◌, ◌==◌, ℕ, Bool, cond, true, false, not, suc, refl, sym, ap, subst, arith, List, [], ◌∷◌, length, take, Option, Some, None, nat_lt, true≢false}
use Rattle.std.specs.Prelude.{option_and_then, position}
use Rattle.std.specs.List.{list_any, position_or_len, before_first, after_first}
use Rattle.std.proofs.lemmas.Bool.Decides.{Decides-eqb, nat_tests}
use Rattle.clap.specs.Lexer.{name_and_value}
use Rattle.pv_words.specs.Parts.{Step, alone, given, long_word, step, with_value}
use Rattle.pv_words.specs.Part.{Part}
use Rattle.pv_words.specs.Part as part
use Rattle.pv_words.specs.Stage.{ValueOf}
use Rattle.pv_words.specs.Table.{option_named}
use Rattle.pv_words.specs.declared.option.OptionName.{OptionName}
use Rattle.pv_words.proofs.RuleLaws.{valued}

-- a word: `-`, `--`, `--..`, `-x..`, or one that begins with no dash
pub data View : List ℕ → Type 0 where
  empty : View []
  dash : View (45 ∷ [])
  ends : View (45 ∷ 45 ∷ [])
  long : (b : ℕ) (bs : List ℕ) → View (45 ∷ 45 ∷ b ∷ bs)
  short : (b : ℕ) (bs : List ℕ) → (b == 45) ≡ false → (45 == b) ≡ false → View (45 ∷ b ∷ bs)
  plain : (b : ℕ) (bs : List ℕ) → (b == 45) ≡ false → View (b ∷ bs)

is-it : (b : ℕ) → (b == 45) ≡ true → 45 ≡ b
is-it b e = sym ((Decides-eqb b 45).0 e)

other_way : (b : ℕ) → (b == 45) ≡ false → (45 == b) ≡ false
other_way b e = go (45 == b) refl
  where
    go : (t : Bool) → (45 == b) ≡ t → t ≡ false
    go false f = refl
    go true f = sym ((Decides-eqb b 45).1 (sym ((Decides-eqb 45 b).0 f))) ∙ e

after_two : (bs : List ℕ) → View (45 ∷ 45 ∷ bs)
after_two [] = ends
after_two (b ∷ bs) = long b bs

after_one : (bs : List ℕ) → View (45 ∷ bs)
after_one [] = dash
after_one (b ∷ bs) = go (b == 45) refl
  where
    go : (t : Bool) → (b == 45) ≡ t → View (45 ∷ b ∷ bs)
    go true e = subst (λ x. View (45 ∷ x ∷ bs)) (is-it b e) (after_two bs)
    go false e = short b bs e (other_way b e)

pub view : (word : List ℕ) → View word
view [] = empty
view (b ∷ bs) = go (b == 45) refl
  where
    go : (t : Bool) → (b == 45) ≡ t → View (b ∷ bs)
    go true e = subst (λ x. View (x ∷ bs)) (is-it b e) (after_one bs)
    go false e = plain b bs e

-- ---- long words

-- an option by whether it takes a value, and the value in its word
abbrev pub by_value : Bool → OptionName → Option (List ℕ) → Option Step
by_value true option None = Some (step (ValueOf option) part.Nothing)
by_value true option (Some value) = Some (given option value)
by_value false option None = Some (given option [])
by_value false option (Some value) = None

abbrev pub long_read : Option OptionName → Option (List ℕ) → Option Step
long_read None value = None
long_read (Some option) value = by_value (valued option) option value

abbrev is_equals : ℕ → Bool
is_equals x = x == 61

lt-next : (a b : ℕ) → nat_lt a b ≡ nat_lt (1 + a) (suc b)
lt-next a b = grind (arith, nat_tests)

lt-first : (n : ℕ) → true ≡ nat_lt 0 (suc n)
lt-first n = grind (arith, nat_tests)

one-more : (n : ℕ) → 1 + n ≡ suc n
one-more n = omega arith

any-place : (xs : List ℕ) → list_any is_equals xs ≡ nat_lt (position_or_len is_equals xs) (length xs)
any-place [] = refl
any-place (x ∷ xs) = go (is_equals x) (any-place xs)
  where
    go : (t : Bool) → list_any is_equals xs ≡ nat_lt (position_or_len is_equals xs) (length xs)
        → (t || list_any is_equals xs) ≡ nat_lt (cond (not t) (1 + position_or_len is_equals xs) 0) (suc (length xs))
    go true e = lt-first (length xs)
    go false e = e ∙ lt-next _ _

take-all : (xs : List ℕ) → nat_lt (position_or_len is_equals xs) (length xs) ≡ false → take (position_or_len is_equals xs) xs ≡ xs
take-all [] e = refl
take-all (x ∷ xs) e = go (is_equals x) e (take-all xs)
  where
    go : (t : Bool) → nat_lt (cond (not t) (1 + position_or_len is_equals xs) 0) (suc (length xs)) ≡ false
        → (nat_lt (position_or_len is_equals xs) (length xs) ≡ false → take (position_or_len is_equals xs) xs ≡ xs)
        → take (cond (not t) (1 + position_or_len is_equals xs) 0) (x ∷ xs) ≡ x ∷ xs
    go true f more = absurd (true≢false (lt-first (length xs) ∙ f))
    go false f more = rw one-more (ap (λ ys. x ∷ ys) (more (lt-next _ _ ∙ f)))

alone-is : (o : Option OptionName) → option_and_then alone o ≡ long_read o None
alone-is None = refl
alone-is (Some option) = go (valued option)
  where
    go : (t : Bool) → cond t (Some (step (ValueOf option) part.Nothing)) (Some (given option [])) ≡ by_value t option None
    go true = refl
    go false = refl

with-is : (value : List ℕ) (o : Option OptionName) → option_and_then (with_value value) o ≡ long_read o (Some value)
with-is value None = refl
with-is value (Some option) = go (valued option)
  where
    go : (t : Bool) → cond t (Some (given option value)) None ≡ by_value t option (Some value)
    go true = refl
    go false = refl

pub long-is : (text : List ℕ) → long_word text (position is_equals text) ≡ long_read (option_named (name_and_value text).0) (name_and_value text).1
long-is text = go (nat_lt (position_or_len is_equals text) (length text)) refl
  where
    go : (t : Bool) → nat_lt (position_or_len is_equals text) (length text) ≡ t
        → long_word text (cond t (Some (position_or_len is_equals text)) None) ≡ long_read (option_named (before_first is_equals text)) (cond (list_any is_equals text) (Some (after_first is_equals text)) None)
    go true e =
        with-is (after_first is_equals text) (option_named (before_first is_equals text))
        ∙ ap (λ t. long_read (option_named (before_first is_equals text)) (cond t (Some (after_first is_equals text)) None)) (sym (any-place text ∙ e))
    go false e =
        alone-is (option_named text)
        ∙ ap (λ name. long_read (option_named name) None) (sym (take-all text e))
        ∙ ap (λ t. long_read (option_named (before_first is_equals text)) (cond t (Some (after_first is_equals text)) None)) (sym (any-place text ∙ e))
