-- Trees with empty files, as a manifest has them: everything except the bytes of files.
use Rattle.std.specs.Prelude.{ℕ, List, [], option_map}
use Rattle.std.specs.FinMap as fin
use Rattle.pv_steps.specs.declared.node.Kind.{Kind}
use Rattle.pv_steps.specs.declared.node.Kind.TheVariants.{File}
use Rattle.pv_steps.specs.declared.object.Object.{Object}
use Rattle.pv_steps.specs.Trees.{Files, places, tabulate}

-- The payload without the bytes of a file. The target of a link stays.
abbrev pub emptied_payload : Kind → List ℕ → List ℕ
emptied_payload File payload = []
emptied_payload kind payload = payload

-- An object without the bytes of a file.
abbrev pub emptied : Object → Object
emptied o = record o { payload = emptied_payload o.node.kind o.payload }

-- A tree in which each file is empty.
abbrev pub with_empty_files : Files → Files
with_empty_files t = tabulate (fin.keys t) (λ path. option_map emptied (places t path))
