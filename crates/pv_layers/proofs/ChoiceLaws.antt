-- Choices, made one after the other.
use Rattle.std.proofs.Common.{◌≡◌, ℕ, ◌+◌, ◌<◌, Bool, true, false, ◌||◌, List, [], ◌++◌, take, drop, length, get_or, append_assoc, refl, sym, ap, ◌∙◌, add-one, if◌then◌else◌}
use Rattle.std.proofs.lemmas.List.{append-nil, take_at}
use Rattle.std.proofs.Math.Seq.{drop-cons, take-suc}
use Rattle.std.specs.List.{list_any}
use Rattle.pv_path.specs.Names.{same_bytes}
use Rattle.pv_path.specs.Paths.{Path}
use Rattle.pv_steps.specs.Trees.{Files}
use Rattle.pv_layers.specs.Folders.{found_in}
use Rattle.pv_layers.specs.Choices.{Choice, nothing, followed, choice_of, choice_of_names, choice_of_next, choice_of_word, choice_of_words, found_word}
use Rattle.pv_text.specs.GivenMessages.{MessagesPart}

or_assoc : (a b c : Bool) → ((a || b) || c) ≡ (a || (b || c))
or_assoc true b c = refl
or_assoc false b c = refl

followed_assoc : (a b c : Choice) → followed (followed a b) c ≡ followed a (followed b c)
followed_assoc a b c = λ i. record {
  files = append_assoc a.files b.files c.files i;
  missing = or_assoc a.missing b.missing c.missing i;
  messages = append_assoc a.messages b.messages c.messages i;
}

-- a part of all choices is made, and the rest is left
pub record Partly (all rest : Choice) (old : List (List ℕ)) (files : List Path) (missing : Bool) (messages : List (List ℕ)) : Type 0 where
  pub made : Choice
  pub files_are : files ≡ made.files
  pub missing_is : missing ≡ made.missing
  pub messages_are : messages ≡ old ++ made.messages
  pub whole : followed made rest ≡ all

pub partly_start : (all : Choice) (old : List (List ℕ)) → Partly all all old [] false old
partly_start all old = record { made = nothing; files_are = refl; missing_is = refl; messages_are = sym (append-nil old); whole = refl }

module _ {all rest : Choice} {old : List (List ℕ)} {files : List Path} {missing : Bool} {messages : List (List ℕ)} (p : Partly all rest old files missing messages) where
  pub partly_more : (one next : Choice) (files' : List Path) (missing' : Bool) (messages' : List (List ℕ)) → rest ≡ followed one next
      → files' ≡ files ++ one.files → missing' ≡ (missing || one.missing) → messages' ≡ messages ++ one.messages → Partly all next old files' missing' messages'
  partly_more one next files' missing' messages' is f m s = record {
    made = followed p.made one;
    files_are = f ∙ ap (λ (x : List Path). x ++ one.files) p.files_are;
    missing_is = m ∙ ap (λ (x : Bool). x || one.missing) p.missing_is;
    messages_are = s ∙ ap (λ (x : List (List ℕ)). x ++ one.messages) p.messages_are ∙ append_assoc old p.made.messages one.messages;
    whole = followed_assoc p.made one next ∙ ap (followed p.made) (sym is) ∙ p.whole;
  }

  pub partly_messages : MessagesPart all.messages old messages
  partly_messages = (
    length p.made.messages,
    p.messages_are ∙ ap (λ (x : List (List ℕ)). old ++ x)
        (sym (take_at p.made.messages rest.messages (length p.made.messages) refl) ∙ ap (λ (c : Choice). take (length p.made.messages) c.messages) p.whole),
  )

-- the next name, and the next word
pub next_name : (files : Files) (folders : List Path) (names : List (List ℕ)) (i : ℕ) (name : List ℕ) → i < length names → name ≡ get_or names i name
    → choice_of_names files folders (drop i names) ≡ followed (choice_of (found_in files folders name)) (choice_of_names files folders (drop (i + 1) names))
next_name files folders names i name below is =
    let next : choice_of_names files folders (drop i names) ≡ followed (choice_of (found_in files folders (get_or names i name))) (choice_of_names files folders (drop (i + 1) names))
    = rw (drop-cons names i name below, add-one i) refl in
    next ∙ ap (λ (n : List ℕ). followed (choice_of (found_in files folders n)) (choice_of_names files folders (drop (i + 1) names))) (sym is)

pub next_word : (files : Files) (folders : List Path) (words : List (List ℕ)) (i : ℕ) (word : List ℕ) → i < length words → word ≡ get_or words i word
    → choice_of_words files folders (take i words) (drop i words)
    ≡ followed (choice_of_next files folders (take i words) word) (choice_of_words files folders (take (i + 1) words) (drop (i + 1) words))
next_word files folders words i word below is =
    let next : choice_of_words files folders (take i words) (drop i words)
    ≡ followed (choice_of_next files folders (take i words) (get_or words i word)) (choice_of_words files folders (take (i + 1) words) (drop (i + 1) words))
    = rw (drop-cons words i word below, add-one i, take-suc words i word below) refl in
    next ∙ ap (λ (w : List ℕ). followed (choice_of_next files folders (take i words) w) (choice_of_words files folders (take (i + 1) words) (drop (i + 1) words))) (sym is)

module _ (files : Files) (folders : List Path) (words : List (List ℕ)) (i : ℕ) (word : List ℕ) (below : i < length words) (is : word ≡ get_or words i word) where
  abbrev rest : Choice
  rest = choice_of_words files folders (take (i + 1) words) (drop (i + 1) words)

  next_by : (b : Bool) → list_any (λ w. same_bytes w word) (take i words) ≡ b
      → choice_of_words files folders (take i words) (drop i words) ≡ followed (if b then nothing else choice_of_word word (found_word files folders word)) rest
  next_by b e =
      next_word files folders words i word below is
      ∙ ap (λ (c : Bool). followed (if c then nothing else choice_of_word word (found_word files folders word)) rest) e

  -- a word that stood before, and one that did not
  pub word_passed : list_any (λ w. same_bytes w word) (take i words) ≡ true → choice_of_words files folders (take i words) (drop i words) ≡ rest
  word_passed e = next_by true e

  pub word_taken : list_any (λ w. same_bytes w word) (take i words) ≡ false
      → choice_of_words files folders (take i words) (drop i words) ≡ followed (choice_of_word word (found_word files folders word)) rest
  word_taken e = next_by false e
