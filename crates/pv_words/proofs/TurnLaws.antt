-- What one word does to `clap`'s walk.
use Rattle.std.proofs.Common.{◌≡◌, ◌∙◌, ◌||◌, ℕ, Bool, cond, true, false, refl, sym, ap, ap₂, List, [], ◌∷◌, Option, Some, None, true≢false}
use Rattle.std.proofs.Math.Bool.{and-false}
use Rattle.std.specs.Prelude.{if◌then◌else◌, fold}
use Rattle.std.specs.Option.{option_map, option_map_or}
use Rattle.std.specs.Str.{bytes_eq}
use Rattle.clap.specs.Lexer.{long_of, name_and_value, short_of}
use Rattle.clap.specs.Walk.{Held, Outcome, Row, Rule, Step, Text, Waiting, Walk, after_flag, after_step, idle, is_pending, long_met, long_or_other, next, option, option_word, plain_word, positional, pushed, settled, short_or_plain, subcommand_met, subcommand_or_other, to_positional, trailing, value, walked, word_met}
use Rattle.clap.specs.Simple.{Shape}
use Rattle.clap.specs.Kinds.{Kinds, or_else}
use Rattle.clap.specs.Faults.{bundle_fault, flag_word_fault, long_fault, other_fault, positional_fault, settle_fault, step_fault, stray_fault, turn_fault, walk_fault, word_fault}
use Rattle.clap.specs.declared.error.kind.ErrorKind.{ErrorKind}
use Rattle.pv_words.specs.Table.{option_named}
use Rattle.pv_words.specs.declared.option.OptionName.{OptionName}
use Rattle.pv_words.proofs.RuleLaws.{IsTable, files_id, files_made, id-own, made, name_of, option_made, valued}

-- the walk between two words
abbrev pub at : Held → Waiting → Bool → Walk
at held waiting is_trailing = record { held = held; waiting = waiting; position = 1; is_trailing = is_trailing; stopped = None }

abbrev pub is_option : Waiting → Bool
is_option (option id) = true
is_option idle = false
is_option positional = false

-- the kinds of fault of the walk over words, and of what is pending at its end
abbrev pub walk_from_fault : Shape → Walk → List Text → Kinds
walk_from_fault s w words =
    or_else (walk_fault s [] w words) (settle_fault s.rules s.args_override_self (fold (walked s.rules []) w words).held)

-- the rows at its end
abbrev pub rows_from : Shape → Walk → List Text → List Row
rows_from s w words = (settled s.rules (fold (walked s.rules []) w words).held).rows

-- a word that passes leads on
pub fault-next : (s : Shape) (w after : Walk) (word : Text) (words : List Text) → turn_fault s [] w word ≡ [] → walked s.rules [] w word ≡ after
    → walk_from_fault s w (word ∷ words) ≡ walk_from_fault s after words
unfolding walk_fault
fault-next s w after word words passes leads =
    ap₂ (λ (t : Kinds) (v : Walk). or_else (or_else t (walk_fault s [] v words)) (settle_fault s.rules s.args_override_self (fold (walked s.rules []) v words).held))
    passes leads

pub rows-next : (s : Shape) (w after : Walk) (word : Text) (words : List Text) → walked s.rules [] w word ≡ after
    → rows_from s w (word ∷ words) ≡ rows_from s after words
rows-next s w after word words leads = ap (λ (v : Walk). rows_from s v words) leads

-- a word that fails ends it
pub fault-here : (s : Shape) (w : Walk) (word : Text) (words : List Text) (k : ErrorKind) (ks : Kinds) → turn_fault s [] w word ≡ k ∷ ks
    → walk_from_fault s w (word ∷ words) ≡ k ∷ ks
unfolding walk_fault
fault-here s w word words k ks fails =
    ap (λ (t : Kinds). or_else (or_else t (walk_fault s [] (walked s.rules [] w word) words)) (settle_fault s.rules s.args_override_self (fold (walked s.rules []) (walked s.rules [] w word) words).held)) fails

no-subcommand : (waiting : Waiting) (word : Text) → subcommand_met [] waiting word ≡ None
no-subcommand idle word = refl
no-subcommand positional word = refl
no-subcommand (option id) word = refl

-- a turn by what the word is
turn-is : (s : Shape) (h : Held) (waiting : Waiting) (t : Bool) (word : Text) (f : Kinds) (after : Held) (did : Step)
    → word_fault s [] t waiting word h ≡ f → word_met s.rules [] t waiting 1 word h ≡ (after, did)
    → turn_fault s [] (at h waiting t) word ≡ or_else f (step_fault s 1 after did)
turn-is s h waiting t word f after did fault met = ap₂ (λ (g : Kinds) (p : Held × Step). or_else g (step_fault s 1 p.0 p.1)) fault met

walked-is : (s : Shape) (h : Held) (waiting : Waiting) (t : Bool) (word : Text) (after : Held) (did : Step)
    → word_met s.rules [] t waiting 1 word h ≡ (after, did) → walked s.rules [] (at h waiting t) word ≡ after_step s.rules word (at h waiting t) after did
unfolding walked
walked-is s h waiting t word after did met = ap (λ (p : Held × Step). after_step s.rules word (at h waiting t) p.0 p.1) met

-- ---- a word that goes to a positional

-- the file word waits to be used
abbrev pub filed : Shape → Text → Held → Held
filed s word h = record (settled s.rules h) { pending = Some (files_id, word ∷ []) }

-- `-`, or a word that begins with no dash
pub record IsLoose (word : Text) : Type 0 where
  pub ends : bytes_eq word (45 ∷ 45 ∷ []) ≡ false
  pub long : long_of word ≡ None
  pub short : short_of word ≡ None

-- the option waits, and then it has its value
abbrev pub awaiting : OptionName → Held → Held
awaiting o h = record h { pending = Some (name_of o, []) }

abbrev pub valued_by : OptionName → Text → Held → Held
valued_by o word h = record h { pending = Some (name_of o, word ∷ []) }

-- what `--NAME` or `--NAME=VALUE` is, by the option of that name
abbrev pub named_fault : Shape → Option OptionName → Option Text → Held → Kinds
named_fault s o v h = long_fault s.rules false (option_map option_made o) v h

abbrev pub named_met : Shape → Option OptionName → Option Text → Held → Held × Outcome
named_met s o v h = long_met s.rules (option_map option_made o) v h

abbrev pub text_of : ℕ → List ℕ → Text
text_of b bs = 45 ∷ 45 ∷ b ∷ bs

abbrev pub named_by : ℕ → List ℕ → Option OptionName
named_by b bs = option_named (name_and_value (b ∷ bs)).0

abbrev pub value_by : ℕ → List ℕ → Option Text
value_by b bs = (name_and_value (b ∷ bs)).1

module _ (s : Shape) (table : IsTable s) where
  step-value : (h : Held) → step_fault s 1 h value ≡ settle_fault s.rules false h
  step-value h =
      ap (λ (a : Option Rule). option_map_or (λ (r : Rule). positional_fault s.rules s.args_override_self r h) a (stray_fault s)) table.first
      ∙ ap (λ (b : Bool). cond b [] (settle_fault s.rules s.args_override_self h)) (and-false (is_pending files_made h.pending))
      ∙ ap (λ (b : Bool). settle_fault s.rules b h) table.again

  after-value : (h : Held) (waiting : Waiting) (t : Bool) (word : Text)
      → after_step s.rules word (at h waiting t) h value ≡ at (filed s word h) positional (t || false)
  after-value h waiting t word =
      ap (λ (a : Option Rule). to_positional s.rules a word (at h waiting t) h) table.first
      ∙ ap (λ (b : Bool). at (pushed files_id word (cond b h (settled s.rules h))) positional (t || false)) (and-false (is_pending files_made h.pending))

  -- after the end of the options
  pub turn-trailing : (h : Held) (waiting : Waiting) (word : Text) → turn_fault s [] (at h waiting true) word ≡ settle_fault s.rules false h
  turn-trailing h waiting word = turn-is s h waiting true word [] h value refl refl ∙ step-value h

  pub walked-trailing : (h : Held) (waiting : Waiting) (word : Text) → walked s.rules [] (at h waiting true) word ≡ at (filed s word h) positional true
  walked-trailing h waiting word = walked-is s h waiting true word h value refl ∙ after-value h waiting true word

  -- ---- a word that is no flag

  met-loose : (h : Held) (waiting : Waiting) (word : Text) → IsLoose word → word_met s.rules [] false waiting 1 word h ≡ plain_word s.rules waiting word h
  met-loose h waiting word loose =
      ap (λ (o : Option Text). subcommand_or_other s.rules o waiting 1 word h) (no-subcommand waiting word)
      ∙ ap (λ (b : Bool). if b then (h, trailing 1) else long_or_other s.rules waiting word (long_of word) h) loose.ends
      ∙ ap (λ (o : Option (Text × Option Text)). long_or_other s.rules waiting word o h) loose.long
      ∙ ap (λ (o : Option Text). short_or_plain s.rules waiting word o h) loose.short

  fault-loose : (h : Held) (waiting : Waiting) (word : Text) → IsLoose word → word_fault s [] false waiting word h ≡ []
  fault-loose h waiting word loose =
      ap (λ (o : Option Text). other_fault s o word h) (no-subcommand waiting word)
      ∙ ap (λ (b : Bool). if b then [] else flag_word_fault s.rules s.args_override_self (long_of word) word h) loose.ends
      ∙ ap (λ (o : Option (Text × Option Text)). flag_word_fault s.rules s.args_override_self o word h) loose.long
      ∙ ap (λ (o : Option Text). option_map_or (λ flags. bundle_fault s.rules s.args_override_self flags h) o []) loose.short

  plain-value : (h : Held) (waiting : Waiting) (word : Text) → is_option waiting ≡ false → plain_word s.rules waiting word h ≡ (h, value)
  plain-value h idle word free = refl
  plain-value h positional word free = refl
  plain-value h (option id) word free = absurd (true≢false free)

  -- where no option waits, it is a file word
  pub turn-file : (h : Held) (waiting : Waiting) (word : Text) → IsLoose word → is_option waiting ≡ false
      → turn_fault s [] (at h waiting false) word ≡ settle_fault s.rules false h
  turn-file h waiting word loose free =
      turn-is s h waiting false word [] h value (fault-loose h waiting word loose) (met-loose h waiting word loose ∙ plain-value h waiting word free) ∙ step-value h

  pub walked-file : (h : Held) (waiting : Waiting) (word : Text) → IsLoose word → is_option waiting ≡ false
      → walked s.rules [] (at h waiting false) word ≡ at (filed s word h) positional false
  walked-file h waiting word loose free =
      walked-is s h waiting false word h value (met-loose h waiting word loose ∙ plain-value h waiting word free) ∙ after-value h waiting false word

  -- ---- the value of an option that waits for it

  one-wanted : (o : OptionName) (word : Text) (h : Held) (takes : Bool) → takes ≡ true
      → option_word (Some (made (name_of o) takes)) (name_of o) word (awaiting o h) ≡ (valued_by o word h, idle)
  one-wanted o word h false e = absurd (true≢false (sym e))
  one-wanted o word h true e = rw (id-own o) refl

  plain-option : (o : OptionName) (word : Text) (h : Held) → valued o ≡ true
      → plain_word s.rules (option (name_of o)) word (awaiting o h) ≡ (valued_by o word h, next idle)
  plain-option o word h takes =
      ap (λ (p : Held × Waiting). (p.0, next p.1)) (ap (λ (a : Option Rule). option_word a (name_of o) word (awaiting o h)) (table.by_id o) ∙ one-wanted o word h (valued o) takes)

  pub turn-option : (o : OptionName) (word : Text) (h : Held) → IsLoose word → valued o ≡ true
      → turn_fault s [] (at (awaiting o h) (option (name_of o)) false) word ≡ []
  turn-option o word h loose takes =
      turn-is s (awaiting o h) (option (name_of o)) false word [] (valued_by o word h) (next idle)
      (fault-loose (awaiting o h) (option (name_of o)) word loose) (met-loose (awaiting o h) (option (name_of o)) word loose ∙ plain-option o word h takes)

  pub walked-option : (o : OptionName) (word : Text) (h : Held) → IsLoose word → valued o ≡ true
      → walked s.rules [] (at (awaiting o h) (option (name_of o)) false) word ≡ at (valued_by o word h) idle false
  walked-option o word h loose takes =
      walked-is s (awaiting o h) (option (name_of o)) false word (valued_by o word h) (next idle) (met-loose (awaiting o h) (option (name_of o)) word loose ∙ plain-option o word h takes)

  -- ---- the end of the options

  pub turn-ends : (h : Held) (waiting : Waiting) → turn_fault s [] (at h waiting false) (45 ∷ 45 ∷ []) ≡ []
  turn-ends h waiting =
      turn-is s h waiting false (45 ∷ 45 ∷ []) [] h (trailing 1)
      (ap (λ (o : Option Text). other_fault s o (45 ∷ 45 ∷ []) h) (no-subcommand waiting (45 ∷ 45 ∷ [])))
      (ap (λ (o : Option Text). subcommand_or_other s.rules o waiting 1 (45 ∷ 45 ∷ []) h) (no-subcommand waiting (45 ∷ 45 ∷ [])))

  pub walked-ends : (h : Held) (waiting : Waiting) → walked s.rules [] (at h waiting false) (45 ∷ 45 ∷ []) ≡ at h waiting true
  walked-ends h waiting =
      walked-is s h waiting false (45 ∷ 45 ∷ []) h (trailing 1)
      (ap (λ (o : Option Text). subcommand_or_other s.rules o waiting 1 (45 ∷ 45 ∷ []) h) (no-subcommand waiting (45 ∷ 45 ∷ [])))

  -- ---- an option word

  met-long : (h : Held) (waiting : Waiting) (b : ℕ) (bs : List ℕ) → word_met s.rules [] false waiting 1 (text_of b bs) h
      ≡ after_flag s.rules waiting (text_of b bs) (named_met s (named_by b bs) (value_by b bs) h).0 (named_met s (named_by b bs) (value_by b bs) h).1
  met-long h waiting b bs =
      ap (λ (o : Option Text). subcommand_or_other s.rules o waiting 1 (text_of b bs) h) (no-subcommand waiting (text_of b bs))
      ∙ ap (λ (a : Option Rule). after_flag s.rules waiting (text_of b bs) (long_met s.rules a (value_by b bs) h).0 (long_met s.rules a (value_by b bs) h).1)
      (table.by_long (name_and_value (b ∷ bs)).0)

  fault-long : (h : Held) (waiting : Waiting) (b : ℕ) (bs : List ℕ) → word_fault s [] false waiting (text_of b bs) h ≡ named_fault s (named_by b bs) (value_by b bs) h
  fault-long h waiting b bs =
      ap (λ (o : Option Text). other_fault s o (text_of b bs) h) (no-subcommand waiting (text_of b bs))
      ∙ ap₂ (λ (again : Bool) (a : Option Rule). long_fault s.rules again a (value_by b bs) h) table.again (table.by_long (name_and_value (b ∷ bs)).0)

  -- the word fails as the option does
  pub turn-long-fails : (h : Held) (waiting : Waiting) (b : ℕ) (bs : List ℕ) (k : ErrorKind) (ks : Kinds) → named_fault s (named_by b bs) (value_by b bs) h ≡ k ∷ ks
      → turn_fault s [] (at h waiting false) (text_of b bs) ≡ k ∷ ks
  turn-long-fails h waiting b bs k ks fails =
      let met = word_met s.rules [] false waiting 1 (text_of b bs) h in
      turn-is s h waiting false (text_of b bs) (k ∷ ks) met.0 met.1 (fault-long h waiting b bs ∙ fails) refl

  -- or it passes, and the option is used or waits
  pub turn-long : (h after : Held) (waiting left : Waiting) (b : ℕ) (bs : List ℕ) (what : Outcome) → named_fault s (named_by b bs) (value_by b bs) h ≡ []
      → named_met s (named_by b bs) (value_by b bs) h ≡ (after, what) → after_flag s.rules waiting (text_of b bs) after what ≡ (after, next left)
      → turn_fault s [] (at h waiting false) (text_of b bs) ≡ []
  turn-long h after waiting left b bs what passes met does =
      turn-is s h waiting false (text_of b bs) [] after (next left) (fault-long h waiting b bs ∙ passes)
      (met-long h waiting b bs ∙ ap (λ (p : Held × Outcome). after_flag s.rules waiting (text_of b bs) p.0 p.1) met ∙ does)

  pub walked-long : (h after : Held) (waiting left : Waiting) (b : ℕ) (bs : List ℕ) (what : Outcome)
      → named_met s (named_by b bs) (value_by b bs) h ≡ (after, what) → after_flag s.rules waiting (text_of b bs) after what ≡ (after, next left)
      → walked s.rules [] (at h waiting false) (text_of b bs) ≡ at after left false
  walked-long h after waiting left b bs what met does =
      walked-is s h waiting false (text_of b bs) after (next left)
      (met-long h waiting b bs ∙ ap (λ (p : Held × Outcome). after_flag s.rules waiting (text_of b bs) p.0 p.1) met ∙ does)
