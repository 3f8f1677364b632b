-- What the arguments of the command ask for: a run of a tool with options, or a run over a generated tree (this
-- project's own).
use Rattle.std.specs.Prelude.{ℕ, ◌&&◌, nat_le, List, [], ◌∷◌, codes, Option, Some, None, option_and_then, if◌then◌else◌}
use Rattle.std.specs.Option.{option_map}
use Rattle.pv_path.specs.Names.{same_bytes}
use Rattle.pv_words.specs.declared.invocation.Invocation.{Invocation}
use Rattle.pv_words.specs.declared.invocation.Invocation.TheVariants.{Run, Generate}
use Rattle.pv_words.specs.Meaning.{options_of}
use Rattle.pv_words.specs.Values.{decimal_value}

-- The most lines that a generated configuration may have.
abbrev pub most_lines : ℕ
most_lines = 2000

-- The number of lines that a text asks for, in decimal: 1 to 2,000.
abbrev pub count_value : List ℕ → Option ℕ
count_value text = option_and_then (λ n. if nat_le 1 n && nat_le n most_lines then Some n else None) (decimal_value text)

-- A run over a generated tree, if both the seed and the number of lines can be read.
abbrev pub generate_by : Option ℕ → Option ℕ → Option Invocation
generate_by (Some seed) (Some count) = Some (Generate seed count)
generate_by seed count = None

-- What the arguments after `generate` ask for. They must be two: the seed and the number of lines.
abbrev pub generate_of : List (List ℕ) → Option Invocation
generate_of (seed ∷ count ∷ []) = generate_by (decimal_value seed) (count_value count)
generate_of words = None

-- What all arguments ask for. If the first is `generate`, it is a run over a generated tree. Otherwise it is the run
-- of the tool that the first one names. They may ask for nothing, which is wrong usage.
abbrev pub parse_args : List (List ℕ) → Option Invocation
parse_args [] = None
parse_args (word ∷ words) = if same_bytes word (codes "generate") then generate_of words else option_map Run (options_of (word ∷ words))
