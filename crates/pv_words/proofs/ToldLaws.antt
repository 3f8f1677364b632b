-- `clap`'s walk over words, against the parts of the words.
use Rattle.std.proofs.Common.{◌≡◌, ◌∙◌, ◌==◌, ℕ, Bool, cond, true, false, refl, sym, ap, ap₂, subst, List, [], ◌∷◌, ◌++◌, Option, Some, None, is_some, append_assoc, append-nil, true≢false}
use Rattle.std.specs.Prelude.{option_and_then, if◌then◌else◌}
use Rattle.std.specs.Option.{option_map, option_map_or}
use Rattle.clap.specs.Walk.{Held, Row, Rule, Text, Waiting, done, flag_met, idle, nothing_held, option_met, option, positional, reacted, settled, settled_rows, takes_values, used, used_by_id, waits, with_values, walked, has_row}
use Rattle.clap.specs.Simple.{Shape}
use Rattle.clap.specs.Kinds.{Kinds, or_else}
use Rattle.clap.specs.Faults.{option_fault, react_fault, settle_fault, turn_fault, use_fault, walk_fault}
use Rattle.clap.specs.declared.builder.value_parser.Reading.TheVariants.{AsWritten}
use Rattle.clap.specs.declared.error.kind.ErrorKind.{ErrorKind}
use Rattle.clap.specs.declared.error.kind.ErrorKind.TheVariants.{ArgumentConflict, InvalidValue, TooManyValues, UnknownArgument}
use Rattle.clap.specs.declared.parser.matches.ValueSource.TheVariants.{CommandLine}
use Rattle.pv_words.specs.Parts.{Step, added, no_parts, with_part}
use Rattle.pv_words.specs.Part.{Part}
use Rattle.pv_words.specs.Part as part
use Rattle.pv_words.specs.Pieces.{Parts}
use Rattle.pv_words.specs.Stage.{Options, ValueOf, Files}
use Rattle.pv_words.specs.Reading.{has_short}
use Rattle.pv_words.specs.declared.option.OptionName.{OptionName}
use Rattle.pv_words.proofs.HoldingLaws.{Holds, Repeats, holds-file, holds-none, holds-option, repeats-again, repeats-more}
use Rattle.pv_words.proofs.ParsingLaws.{free_parts}
use Rattle.pv_words.proofs.RuleLaws.{IsTable, files_id, made, name_of, option_made, takes-is, use-again, use-files, use-first, use-none, used-files, uses, valued}
use Rattle.pv_words.proofs.TurnLaws.{IsLoose, at, awaiting, fault-here, fault-next, filed, is_option, named_by, named_fault, named_met, rows-next, rows_from, text_of, turn-ends, turn-file, turn-long, turn-long-fails, turn-option, turn-trailing, value_by, valued_by, walk_from_fault, walked-ends, walked-file, walked-long, walked-option, walked-trailing}
use Rattle.pv_words.proofs.WordLaws.{View, by_value, dash, empty, ends, long, long-is, long_read, plain, short, view}

-- ---- parts that grow at their end

-- the parts so far, and then the parts of the rest
abbrev pub joined : Parts → Parts → Parts
joined first second = record { given = first.given ++ second.given; files = first.files ++ second.files }

joined-added : (first second : Parts) (p : Part) → joined (added first p) second ≡ joined first (with_part p second)
joined-added first second part.Nothing = refl
joined-added first second (part.Given g) = simp append_assoc
joined-added first second (part.File word) = simp append_assoc

joined-none : (parts : Parts) → joined parts no_parts ≡ parts
joined-none parts = simp append-nil

pub joined-first : (all : Option Parts) → option_map (joined no_parts) all ≡ all
joined-first None = refl
joined-first (Some parts) = refl

joined-more : (parts : Parts) (p : Part) (rest : Option Parts) → option_map (joined parts) (option_map (with_part p) rest) ≡ option_map (joined (added parts p)) rest
joined-more parts p None = refl
joined-more parts p (Some rest) = ap (λ x. Some x) (sym (joined-added parts rest p))

-- ---- what `clap` tells of words

-- an option stands twice in whatever parts there are
abbrev pub NoMeaning : Option Parts → Type 0
NoMeaning meaning = (parts : Parts) → meaning ≡ Some parts → Repeats parts.given

-- the words pass, and the rows hold their parts; or they fail, and have no parts without an option that stands twice
pub data UnlessMemory (fault : Kinds) (rows : List Row) (meaning : Option Parts) : Type 0 where
  passes : (parts : Parts) → meaning ≡ Some parts → fault ≡ [] → Holds rows parts → UnlessMemory fault rows meaning
  fails : (k : ErrorKind) (ks : Kinds) → fault ≡ k ∷ ks → NoMeaning meaning → UnlessMemory fault rows meaning

no_parts_mean : (meaning : Option Parts) → meaning ≡ None → NoMeaning meaning
no_parts_mean meaning none parts some = absurd (true≢false (ap is_some (sym some ∙ none)))

repeats-mean : (parts : Parts) (rest : Option Parts) → Repeats parts.given → NoMeaning (option_map (joined parts) rest)
repeats-mean parts None repeats all some = absurd (true≢false (ap is_some (sym some)))
repeats-mean parts (Some rest) repeats all some =
    subst (λ (p : Parts). Repeats p.given) (ap (λ (o : Option Parts). Rattle.std.specs.Option.unwrap_or o all) some)
    (repeats-more parts.given rest.given repeats)

-- some fault
abbrev Fails : Kinds → Type 0
Fails fault = (k : ErrorKind) × (ks : Kinds) × (fault ≡ k ∷ ks)

stated-fails : (fault : Kinds) (rows : List Row) (meaning : Option Parts) → Fails fault → NoMeaning meaning → UnlessMemory fault rows meaning
stated-fails fault rows meaning f none = fails f.0 f.1 f.2 none

or-fails : (a b : Kinds) → Fails a → Fails (or_else a b)
or-fails a b f = (f.0, f.1, ap (λ x. or_else x b) f.2)

stated-as : (fault fault' : Kinds) (rows rows' : List Row) (meaning meaning' : Option Parts) → fault' ≡ fault → rows' ≡ rows → meaning' ≡ meaning
    → UnlessMemory fault rows meaning → UnlessMemory fault' rows' meaning'
stated-as fault fault' rows rows' meaning meaning' e f g stated = rw (e, f, g) stated

-- ---- words by their dashes

loose-empty : IsLoose []
loose-empty = record { ends = refl; long = refl; short = refl }

loose-dash : IsLoose (45 ∷ [])
loose-dash = record { ends = refl; long = refl; short = refl }

loose-plain : (b : ℕ) (bs : List ℕ) → (b == 45) ≡ false → IsLoose (b ∷ bs)
loose-plain b bs e = record { ends = rw e refl; long = rw e refl; short = rw e refl }

short-here : (b : ℕ) (bs : List ℕ) (words : List Text) → (b == 45) ≡ false → (45 == b) ≡ false → has_short ((45 ∷ b ∷ bs) ∷ words) ≡ false → ⊥
short-here b bs words e f none = true≢false (rw (e, f) at none)

module _ (s : Shape) (table : IsTable s) where
  -- what is pending can be used, and gives these rows
  record Settles (h : Held) (rows : List Row) : Type 0 where
    pub passes : settle_fault s.rules false h ≡ []
    pub gives : settled_rows s.rules h.pending h.rows ≡ rows

  abbrev UnlessMemoryFrom : Held → Waiting → Bool → List Text → Option Parts → Type 0
  UnlessMemoryFrom h waiting t words meaning = UnlessMemory (walk_from_fault s (at h waiting t) words) (rows_from s (at h waiting t) words) meaning

  -- one more word
  stated-next : (h after : Held) (waiting left : Waiting) (t u : Bool) (word : Text) (words : List Text) (meaning meaning' : Option Parts)
      → turn_fault s [] (at h waiting t) word ≡ [] → walked s.rules [] (at h waiting t) word ≡ at after left u
      → meaning' ≡ meaning → UnlessMemoryFrom after left u words meaning → UnlessMemoryFrom h waiting t (word ∷ words) meaning'
  stated-next h after waiting left t u word words meaning meaning' pass leads same stated =
      stated-as _ _ _ _ meaning meaning' (fault-next s (at h waiting t) (at after left u) word words pass leads) (rows-next s (at h waiting t) (at after left u) word words leads) same stated

  stated-here : (h : Held) (waiting : Waiting) (t : Bool) (word : Text) (words : List Text) (meaning : Option Parts)
      → Fails (turn_fault s [] (at h waiting t) word) → NoMeaning meaning → UnlessMemoryFrom h waiting t (word ∷ words) meaning
  stated-here h waiting t word words meaning f none = fails f.0 f.1 (fault-here s (at h waiting t) word words f.0 f.1 f.2) none

  -- ---- the end of the words

  stated-end : (h : Held) (waiting : Waiting) (t : Bool) (rows : List Row) (parts : Parts) → Settles h rows → Holds rows parts
      → UnlessMemoryFrom h waiting t [] (option_map (joined parts) (Some no_parts))
  unfolding walk_fault
  stated-end h waiting t rows parts settles holds =
      passes parts (ap (λ x. Some x) (joined-none parts)) (end_passes ∙ settles.passes) (subst (λ r. Holds r parts) (sym settles.gives) holds)
    where
      end_passes : walk_from_fault s (at h waiting t) [] ≡ settle_fault s.rules false h
      end_passes = ap (λ b. settle_fault s.rules b h) table.again

  fault-end : (h : Held) (waiting : Waiting) (t : Bool) → Fails (settle_fault s.rules false h) → Fails (walk_from_fault s (at h waiting t) [])
  unfolding walk_fault
  fault-end h waiting t f = (f.0, f.1, ap (λ b. settle_fault s.rules b h) table.again ∙ f.2)

  -- ---- a file word waits to be used

  settles-file : (h : Held) (rows : List Row) (word : Text) → Settles h rows → Settles (filed s word h) (with_values files_id AsWritten CommandLine (word ∷ []) rows)
  settles-file h rows word settles = record {
    passes = ap (λ (a : Option Rule). option_map_or (λ (r : Rule). use_fault false r (word ∷ []) (filed s word h).rows) a []) table.files ∙ use-files word (filed s word h).rows;
    gives = ap (λ (a : Option Rule). used_by_id a (word ∷ []) (filed s word h).rows) table.files ∙ used-files word (filed s word h).rows
        ∙ ap (with_values files_id AsWritten CommandLine (word ∷ [])) settles.gives;
  }

  -- after the end of the options each word is a file word
  stated-files : (words : List Text) (h : Held) (waiting : Waiting) (rows : List Row) (parts : Parts) → Settles h rows → Holds rows parts
      → UnlessMemoryFrom h waiting true words (option_map (joined parts) (free_parts Files words))
  stated-files [] h waiting rows parts settles holds = stated-end h waiting true rows parts settles holds
  stated-files (word ∷ words) h waiting rows parts settles holds =
      stated-next h (filed s word h) waiting positional true true word words
      (option_map (joined (added parts (part.File word))) (free_parts Files words)) (option_map (joined parts) (free_parts Files (word ∷ words)))
      (turn-trailing s table h waiting word ∙ settles.passes) (walked-trailing s table h waiting word) (joined-more parts (part.File word) (free_parts Files words))
      (stated-files words (filed s word h) positional (with_values files_id AsWritten CommandLine (word ∷ []) rows) (added parts (part.File word))
      (settles-file h rows word settles) (holds-file rows parts word holds))

  -- ---- what is pending can't be used

  stuck-files : (words : List Text) (h : Held) (waiting : Waiting) → Fails (settle_fault s.rules false h) → Fails (walk_from_fault s (at h waiting true) words)
  stuck-files [] h waiting f = fault-end h waiting true f
  stuck-files (word ∷ words) h waiting f =
      (f.0, f.1, fault-here s (at h waiting true) word words f.0 f.1 (turn-trailing s table h waiting word ∙ f.2))

  -- an option word fails too
  stuck-named : (found : Option OptionName) (v : Option Text) (h : Held) → Fails (settle_fault s.rules false h) → Fails (named_fault s found v h)
  stuck-named None v h f = (UnknownArgument, [], refl)
  stuck-named (Some o) v h f = go (takes_values (option_made o)) v
    where
      go : (b : Bool) (v : Option Text) → Fails (cond b (option_fault s.rules false (option_made o) v h)
          (if is_some v then TooManyValues ∷ [] else react_fault s.rules false (option_made o) [] h))
      go true None = f
      go true (Some x) = or-fails (settle_fault s.rules false h) _ f
      go false None = or-fails (settle_fault s.rules false h) _ f
      go false (Some x) = (TooManyValues, [], refl)

  stuck-long : (h : Held) (waiting : Waiting) (b : ℕ) (bs : List ℕ) → Fails (settle_fault s.rules false h)
      → Fails (turn_fault s [] (at h waiting false) (text_of b bs))
  stuck-long h waiting b bs f =
      let g = stuck-named (named_by b bs) (value_by b bs) h f in
      (g.0, g.1, turn-long-fails s table h waiting b bs g.0 g.1 g.2)

  stuck-file : (words : List Text) (h : Held) (waiting : Waiting) (word : Text) → IsLoose word → is_option waiting ≡ false → Fails (settle_fault s.rules false h)
      → Fails (walk_from_fault s (at h waiting false) (word ∷ words))
  stuck-file words h waiting word loose free f =
      (f.0, f.1, fault-here s (at h waiting false) word words f.0 f.1 (turn-file s table h waiting word loose free ∙ f.2))

  stuck-ends : (words : List Text) (h : Held) (waiting : Waiting) → Fails (settle_fault s.rules false h)
      → Fails (walk_from_fault s (at h waiting false) ((45 ∷ 45 ∷ []) ∷ words))
  stuck-ends words h waiting f =
      let g = stuck-files words h waiting f in
      (g.0, g.1, fault-next s (at h waiting false) (at h waiting true) (45 ∷ 45 ∷ []) words (turn-ends s table h waiting) (walked-ends s table h waiting) ∙ g.2)

  -- where no option waits, each further word fails, or the end does
  stuck-options : {word : List ℕ} (words : List Text) (h : Held) (waiting : Waiting) → View word → is_option waiting ≡ false
      → Fails (settle_fault s.rules false h) → has_short (word ∷ words) ≡ false → Fails (walk_from_fault s (at h waiting false) (word ∷ words))
  stuck-options words h waiting empty free f none = stuck-file words h waiting [] loose-empty free f
  stuck-options words h waiting dash free f none = stuck-file words h waiting (45 ∷ []) loose-dash free f
  stuck-options words h waiting ends free f none = stuck-ends words h waiting f
  stuck-options words h waiting (long b bs) free f none =
      let g = stuck-long h waiting b bs f in
      (g.0, g.1, fault-here s (at h waiting false) (text_of b bs) words g.0 g.1 g.2)
  stuck-options words h waiting (short b bs e e') free f none = absurd (short-here b bs words e e' none)
  stuck-options words h waiting (plain b bs e) free f none = stuck-file words h waiting (b ∷ bs) (loose-plain b bs e) free f

  stuck : (words : List Text) (h : Held) (waiting : Waiting) → is_option waiting ≡ false → Fails (settle_fault s.rules false h) → has_short words ≡ false
      → Fails (walk_from_fault s (at h waiting false) words)
  stuck [] h waiting free f none = fault-end h waiting false f
  stuck (word ∷ words) h waiting free f none = stuck-options words h waiting (view word) free f none

  -- ---- among the options, and where an option waits for its value

  record GoesOn (words : List Text) : Type 0 where
    pub options : (h : Held) (rows : List Row) (waiting : Waiting) (parts : Parts) → is_option waiting ≡ false → Settles h rows → Holds rows parts
        → has_short words ≡ false → UnlessMemoryFrom h waiting false words (option_map (joined parts) (free_parts Options words))
    pub value : (o : OptionName) (h : Held) (parts : Parts) → valued o ≡ true → Holds h.rows parts
        → has_short words ≡ false → UnlessMemoryFrom (awaiting o h) (option (name_of o)) false words (option_map (joined parts) (free_parts (ValueOf o) words))

  abbrev with_next : Parts → Part → Option Parts → Option Parts
  with_next parts p rest = option_map (joined parts) (option_map (with_part p) rest)

  -- a file word
  stated-file : (words : List Text) (h : Held) (rows : List Row) (waiting : Waiting) (parts : Parts) (word : Text) → GoesOn words → IsLoose word
      → is_option waiting ≡ false → Settles h rows → Holds rows parts → has_short words ≡ false
      → UnlessMemoryFrom h waiting false (word ∷ words) (with_next parts (part.File word) (free_parts Options words))
  stated-file words h rows waiting parts word more loose free settles holds none =
      stated-next h (filed s word h) waiting positional false false word words
      (option_map (joined (added parts (part.File word))) (free_parts Options words)) (with_next parts (part.File word) (free_parts Options words))
      (turn-file s table h waiting word loose free ∙ settles.passes) (walked-file s table h waiting word loose free) (joined-more parts (part.File word) (free_parts Options words))
      (more.options (filed s word h) (with_values files_id AsWritten CommandLine (word ∷ []) rows) positional (added parts (part.File word)) refl
      (settles-file h rows word settles) (holds-file rows parts word holds) none)

  -- the end of the options
  stated-ends : (words : List Text) (h : Held) (rows : List Row) (waiting : Waiting) (parts : Parts) → Settles h rows → Holds rows parts
      → UnlessMemoryFrom h waiting false ((45 ∷ 45 ∷ []) ∷ words) (with_next parts part.Nothing (free_parts Files words))
  stated-ends words h rows waiting parts settles holds =
      stated-next h h waiting waiting false true (45 ∷ 45 ∷ []) words
      (option_map (joined parts) (free_parts Files words)) (with_next parts part.Nothing (free_parts Files words))
      (turn-ends s table h waiting) (walked-ends s table h waiting) (joined-more parts part.Nothing (free_parts Files words))
      (stated-files words h waiting rows parts settles holds)

  -- ---- an option word

  abbrev one_use : OptionName → List ℕ → Part
  one_use o value = part.Given (record { option = o; value = value })

  settles-used : (h : Held) (rows : List Row) (o : OptionName) (values : List Text) → Settles h rows
      → Settles (reacted s.rules (option_made o) values h) (used (option_made o) values rows)
  settles-used h rows o values settles = record { passes = refl; gives = ap (used (option_made o) values) settles.gives }

  -- an option is used
  stated-used : (words : List Text) (h : Held) (rows : List Row) (waiting : Waiting) (parts : Parts) (b : ℕ) (bs : List ℕ) (o : OptionName) (value : List ℕ) → GoesOn words
      → Settles h rows → Holds rows parts → has_short words ≡ false
      → named_fault s (named_by b bs) (value_by b bs) h ≡ react_fault s.rules false (option_made o) (uses (valued o) value) h
      → named_met s (named_by b bs) (value_by b bs) h ≡ (reacted s.rules (option_made o) (uses (valued o) value) h, done)
      → (again : Bool) → has_row (name_of o) rows ≡ again
      → UnlessMemoryFrom h waiting false (text_of b bs ∷ words) (with_next parts (one_use o value) (free_parts Options words))
  stated-used words h rows waiting parts b bs o value more settles holds none fault met false fresh =
      let passes' : named_fault s (named_by b bs) (value_by b bs) h ≡ [] =
      fault ∙ ap₂ (λ (x : Kinds) (r : List Row). or_else x (use_fault false (option_made o) (uses (valued o) value) r)) settles.passes settles.gives
      ∙ use-first (name_of o) (valued o) value rows fresh in
      stated-next h (reacted s.rules (option_made o) (uses (valued o) value) h) waiting idle false false (text_of b bs) words
      (option_map (joined (added parts (one_use o value))) (free_parts Options words)) (with_next parts (one_use o value) (free_parts Options words))
      (turn-long s table h (reacted s.rules (option_made o) (uses (valued o) value) h) waiting idle b bs done passes' met refl)
      (walked-long s table h (reacted s.rules (option_made o) (uses (valued o) value) h) waiting idle b bs done met refl)
      (joined-more parts (one_use o value) (free_parts Options words))
      (more.options (reacted s.rules (option_made o) (uses (valued o) value) h) (used (option_made o) (uses (valued o) value) rows) idle (added parts (one_use o value)) refl
      (settles-used h rows o (uses (valued o) value) settles) (holds-option rows parts o value holds fresh) none)
  stated-used words h rows waiting parts b bs o value more settles holds none fault met true again =
      let fails' : named_fault s (named_by b bs) (value_by b bs) h ≡ ArgumentConflict ∷ [] =
      fault ∙ ap₂ (λ (x : Kinds) (r : List Row). or_else x (use_fault false (option_made o) (uses (valued o) value) r)) settles.passes settles.gives
      ∙ use-again (name_of o) (valued o) value rows again in
      stated-here h waiting false (text_of b bs) words (with_next parts (one_use o value) (free_parts Options words))
      (ArgumentConflict, [], turn-long-fails s table h waiting b bs ArgumentConflict [] fails')
      (subst NoMeaning (sym (joined-more parts (one_use o value) (free_parts Options words)))
      (repeats-mean (added parts (one_use o value)) (free_parts Options words) (repeats-again rows parts o value holds again)))

  -- an option waits for its value
  stated-waits : (words : List Text) (h : Held) (rows : List Row) (waiting : Waiting) (parts : Parts) (b : ℕ) (bs : List ℕ) (o : OptionName) → GoesOn words
      → Settles h rows → Holds rows parts → has_short words ≡ false → valued o ≡ true
      → named_fault s (named_by b bs) (value_by b bs) h ≡ settle_fault s.rules false h
      → named_met s (named_by b bs) (value_by b bs) h ≡ (awaiting o (settled s.rules h), waits (name_of o))
      → UnlessMemoryFrom h waiting false (text_of b bs ∷ words) (with_next parts part.Nothing (free_parts (ValueOf o) words))
  stated-waits words h rows waiting parts b bs o more settles holds none takes fault met =
      stated-next h (awaiting o (settled s.rules h)) waiting (option (name_of o)) false false (text_of b bs) words
      (option_map (joined parts) (free_parts (ValueOf o) words)) (with_next parts part.Nothing (free_parts (ValueOf o) words))
      (turn-long s table h (awaiting o (settled s.rules h)) waiting (option (name_of o)) b bs (waits (name_of o)) (fault ∙ settles.passes) met refl)
      (walked-long s table h (awaiting o (settled s.rules h)) waiting (option (name_of o)) b bs (waits (name_of o)) met refl)
      (joined-more parts part.Nothing (free_parts (ValueOf o) words))
      (more.value o (settled s.rules h) parts takes (subst (λ r. Holds r parts) (sym settles.gives) holds) none)

  abbrev then_free : List Text → Option Step → Option Parts
  then_free words = option_and_then (λ t. option_map (with_part t.part) (free_parts t.stage words))

  stated-refused : (words : List Text) (h : Held) (waiting : Waiting) (parts : Parts) (b : ℕ) (bs : List ℕ) (k : ErrorKind)
      → named_fault s (named_by b bs) (value_by b bs) h ≡ k ∷ [] → UnlessMemoryFrom h waiting false (text_of b bs ∷ words) (option_map (joined parts) None)
  stated-refused words h waiting parts b bs k fault =
      stated-here h waiting false (text_of b bs) words (option_map (joined parts) None) (k, [], turn-long-fails s table h waiting b bs k [] fault) (no_parts_mean None refl)

  -- by whether the option takes a value, and whether one is in its word
  stated-named : (words : List Text) (h : Held) (rows : List Row) (waiting : Waiting) (parts : Parts) (b : ℕ) (bs : List ℕ) (o : OptionName) → GoesOn words
      → Settles h rows → Holds rows parts → has_short words ≡ false → named_by b bs ≡ Some o
      → (takes : Bool) → valued o ≡ takes → (v : Option Text) → value_by b bs ≡ v
      → UnlessMemoryFrom h waiting false (text_of b bs ∷ words) (option_map (joined parts) (then_free words (by_value takes o v)))
  stated-named words h rows waiting parts b bs o more settles holds none name true takes None v =
      stated-waits words h rows waiting parts b bs o more settles holds none takes
      (ap₂ (λ n x. named_fault s n x h) name v ∙ ap (λ (t : Bool). cond t (option_fault s.rules false (option_made o) None h) (react_fault s.rules false (option_made o) [] h)) (takes-is (name_of o) (valued o) ∙ takes))
      (ap₂ (λ n x. named_met s n x h) name v ∙ ap (λ (t : Bool). cond t (option_met s.rules (option_made o) None h) (flag_met s.rules (option_made o) None h)) (takes-is (name_of o) (valued o) ∙ takes))
  stated-named words h rows waiting parts b bs o more settles holds none name true takes (Some x) v =
      stated-used words h rows waiting parts b bs o x more settles holds none
      (ap₂ (λ n y. named_fault s n y h) name v ∙ ap (λ (t : Bool). cond t (option_fault s.rules false (option_made o) (Some x) h) (TooManyValues ∷ [])) (takes-is (name_of o) (valued o) ∙ takes)
      ∙ ap (λ (t : Bool). react_fault s.rules false (option_made o) (uses t x) h) (sym takes))
      (ap₂ (λ n y. named_met s n y h) name v ∙ ap (λ (t : Bool). cond t (option_met s.rules (option_made o) (Some x) h) (flag_met s.rules (option_made o) (Some x) h)) (takes-is (name_of o) (valued o) ∙ takes)
      ∙ ap (λ (t : Bool). (reacted s.rules (option_made o) (uses t x) h, done)) (sym takes))
      (has_row (name_of o) rows) refl
  stated-named words h rows waiting parts b bs o more settles holds none name false takes None v =
      stated-used words h rows waiting parts b bs o [] more settles holds none
      (ap₂ (λ n y. named_fault s n y h) name v ∙ ap (λ (t : Bool). cond t (option_fault s.rules false (option_made o) None h) (react_fault s.rules false (option_made o) [] h)) (takes-is (name_of o) (valued o) ∙ takes)
      ∙ ap (λ (t : Bool). react_fault s.rules false (option_made o) (uses t []) h) (sym takes))
      (ap₂ (λ n y. named_met s n y h) name v ∙ ap (λ (t : Bool). cond t (option_met s.rules (option_made o) None h) (flag_met s.rules (option_made o) None h)) (takes-is (name_of o) (valued o) ∙ takes)
      ∙ ap (λ (t : Bool). (reacted s.rules (option_made o) (uses t []) h, done)) (sym takes))
      (has_row (name_of o) rows) refl
  stated-named words h rows waiting parts b bs o more settles holds none name false takes (Some x) v =
      stated-refused words h waiting parts b bs TooManyValues
      (ap₂ (λ n y. named_fault s n y h) name v ∙ ap (λ (t : Bool). cond t (option_fault s.rules false (option_made o) (Some x) h) (TooManyValues ∷ [])) (takes-is (name_of o) (valued o) ∙ takes))

  stated-found : (words : List Text) (h : Held) (rows : List Row) (waiting : Waiting) (parts : Parts) (b : ℕ) (bs : List ℕ) → GoesOn words
      → Settles h rows → Holds rows parts → has_short words ≡ false → (found : Option OptionName) → named_by b bs ≡ found
      → UnlessMemoryFrom h waiting false (text_of b bs ∷ words) (option_map (joined parts) (then_free words (long_read found (value_by b bs))))
  stated-found words h rows waiting parts b bs more settles holds none None name =
      stated-refused words h waiting parts b bs UnknownArgument (ap (λ n. named_fault s n (value_by b bs) h) name)
  stated-found words h rows waiting parts b bs more settles holds none (Some o) name =
      stated-named words h rows waiting parts b bs o more settles holds none name (valued o) refl (value_by b bs) refl

  stated-option : {word : List ℕ} (words : List Text) (h : Held) (rows : List Row) (waiting : Waiting) (parts : Parts) → View word → GoesOn words
      → is_option waiting ≡ false → Settles h rows → Holds rows parts → has_short (word ∷ words) ≡ false
      → UnlessMemoryFrom h waiting false (word ∷ words) (option_map (joined parts) (free_parts Options (word ∷ words)))
  stated-option words h rows waiting parts empty more free settles holds none = stated-file words h rows waiting parts [] more loose-empty free settles holds none
  stated-option words h rows waiting parts dash more free settles holds none = stated-file words h rows waiting parts (45 ∷ []) more loose-dash free settles holds none
  stated-option words h rows waiting parts ends more free settles holds none = stated-ends words h rows waiting parts settles holds
  stated-option words h rows waiting parts (long b bs) more free settles holds none =
      subst (λ (m : Option Step). UnlessMemoryFrom h waiting false (text_of b bs ∷ words) (option_map (joined parts) (then_free words m))) (sym (long-is (b ∷ bs)))
      (stated-found words h rows waiting parts b bs more settles holds none (named_by b bs) refl)
  stated-option words h rows waiting parts (short b bs e f) more free settles holds none = absurd (short-here b bs words e f none)
  stated-option words h rows waiting parts (plain b bs e) more free settles holds none =
      subst (λ (m : Option Parts). UnlessMemoryFrom h waiting false ((b ∷ bs) ∷ words) (option_map (joined parts) m)) (sym file)
      (stated-file words h rows waiting parts (b ∷ bs) more (loose-plain b bs e) free settles holds (rw e at none))
    where
      file : free_parts Options ((b ∷ bs) ∷ words) ≡ option_map (with_part (part.File (b ∷ bs))) (free_parts Options words)
      file = rw e refl

  -- ---- the value of an option

  awaiting-fails : (o : OptionName) (h : Held) → valued o ≡ true → Fails (settle_fault s.rules false (awaiting o h))
  awaiting-fails o h takes = (
    InvalidValue,
    [],
    ap (λ (a : Option Rule). option_map_or (λ (r : Rule). use_fault false r [] h.rows) a []) (table.by_id o)
        ∙ ap (λ (t : Bool). use_fault false (made (name_of o) t) [] h.rows) takes ∙ use-none (name_of o) h.rows,
  )

  valued-fault : (o : OptionName) (word : Text) (h : Held) → valued o ≡ true
      → settle_fault s.rules false (valued_by o word h) ≡ use_fault false (option_made o) (uses (valued o) word) h.rows
  valued-fault o word h takes =
      ap (λ (a : Option Rule). option_map_or (λ (r : Rule). use_fault false r (word ∷ []) h.rows) a []) (table.by_id o)
      ∙ ap (λ (t : Bool). use_fault false (option_made o) (uses t word) h.rows) (sym takes)

  settles-valued : (o : OptionName) (word : Text) (h : Held) → valued o ≡ true → has_row (name_of o) h.rows ≡ false
      → Settles (valued_by o word h) (used (option_made o) (uses (valued o) word) h.rows)
  settles-valued o word h takes fresh = record {
    passes = valued-fault o word h takes ∙ use-first (name_of o) (valued o) word h.rows fresh;
    gives = ap (λ (a : Option Rule). used_by_id a (word ∷ []) h.rows) (table.by_id o) ∙ ap (λ (t : Bool). used (option_made o) (uses t word) h.rows) (sym takes);
  }

  -- the option has its value
  stated-valued : (words : List Text) (o : OptionName) (h : Held) (parts : Parts) (word : Text) → GoesOn words → IsLoose word → valued o ≡ true → Holds h.rows parts
      → has_short words ≡ false → (again : Bool) → has_row (name_of o) h.rows ≡ again
      → UnlessMemoryFrom (awaiting o h) (option (name_of o)) false (word ∷ words) (with_next parts (one_use o word) (free_parts Options words))
  stated-valued words o h parts word more loose takes holds none again row =
      stated-next (awaiting o h) (valued_by o word h) (option (name_of o)) idle false false word words
      (option_map (joined (added parts (one_use o word))) (free_parts Options words)) (with_next parts (one_use o word) (free_parts Options words))
      (turn-option s table o word h loose takes) (walked-option s table o word h loose takes) (joined-more parts (one_use o word) (free_parts Options words))
      (go again row)
    where
      go : (again : Bool) → has_row (name_of o) h.rows ≡ again → UnlessMemoryFrom (valued_by o word h) idle false words (option_map (joined (added parts (one_use o word))) (free_parts Options words))
      go false fresh =
          more.options (valued_by o word h) (used (option_made o) (uses (valued o) word) h.rows) idle (added parts (one_use o word)) refl
          (settles-valued o word h takes fresh) (holds-option h.rows parts o word holds fresh) none
      go true twice =
          stated-fails _ _ _ (stuck words (valued_by o word h) idle refl
          (ArgumentConflict, [], valued-fault o word h takes ∙ use-again (name_of o) (valued o) word h.rows twice) none)
          (repeats-mean (added parts (one_use o word)) (free_parts Options words) (repeats-again h.rows parts o word holds twice))

  stated-value : {word : List ℕ} (words : List Text) (o : OptionName) (h : Held) (parts : Parts) → View word → GoesOn words → valued o ≡ true → Holds h.rows parts
      → has_short (word ∷ words) ≡ false
      → UnlessMemoryFrom (awaiting o h) (option (name_of o)) false (word ∷ words) (option_map (joined parts) (free_parts (ValueOf o) (word ∷ words)))
  stated-value words o h parts empty more takes holds none = stated-valued words o h parts [] more loose-empty takes holds none (has_row (name_of o) h.rows) refl
  stated-value words o h parts dash more takes holds none = stated-valued words o h parts (45 ∷ []) more loose-dash takes holds none (has_row (name_of o) h.rows) refl
  stated-value words o h parts ends more takes holds none =
      stated-fails _ _ _ (stuck-ends words (awaiting o h) (option (name_of o)) (awaiting-fails o h takes)) (no_parts_mean None refl)
  stated-value words o h parts (long b bs) more takes holds none =
      stated-here (awaiting o h) (option (name_of o)) false (text_of b bs) words None (stuck-long (awaiting o h) (option (name_of o)) b bs (awaiting-fails o h takes)) (no_parts_mean None refl)
  stated-value words o h parts (short b bs e f) more takes holds none = absurd (short-here b bs words e f none)
  stated-value words o h parts (plain b bs e) more takes holds none =
      subst (λ (m : Option Parts). UnlessMemoryFrom (awaiting o h) (option (name_of o)) false ((b ∷ bs) ∷ words) (option_map (joined parts) m)) (sym value-is)
      (stated-valued words o h parts (b ∷ bs) more (loose-plain b bs e) takes holds (rw e at none) (has_row (name_of o) h.rows) refl)
    where
      value-is : free_parts (ValueOf o) ((b ∷ bs) ∷ words) ≡ option_map (with_part (one_use o (b ∷ bs))) (free_parts Options words)
      value-is = rw e refl

  goes-on : (words : List Text) → GoesOn words
  goes-on [] = record {
    options = λ h rows waiting parts free settles holds none. stated-end h waiting false rows parts settles holds;
    value = λ o h parts takes holds none.
        stated-fails _ _ _ (fault-end (awaiting o h) (option (name_of o)) false (awaiting-fails o h takes)) (no_parts_mean None refl);
  }
  goes-on (word ∷ words) = record {
    options = λ h rows waiting parts free settles holds none. stated-option words h rows waiting parts (view word) (goes-on words) free settles holds none;
    value = λ o h parts takes holds none. stated-value words o h parts (view word) (goes-on words) takes holds none;
  }

  -- from the first word on
  pub stated : (words : List Text) → has_short words ≡ false
      → UnlessMemory (walk_from_fault s (at nothing_held idle false) words) (rows_from s (at nothing_held idle false) words) (free_parts Options words)
  stated words none =
      subst (λ (m : Option Parts). UnlessMemoryFrom nothing_held idle false words m) (joined-first (free_parts Options words))
      ((goes-on words).options nothing_held [] idle no_parts refl (record { passes = refl; gives = refl }) holds-none none)
