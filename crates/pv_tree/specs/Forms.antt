-- Where the content of a slot is kept. No public clause names this module.
use Rattle.std.specs.Prelude.{[]}
use Rattle.std.specs.FinMap as fin
use Rattle.pv_tree.specs.Content.{Content}
use Rattle.pv_tree.specs.declared.content.Form.{Form}
use Rattle.pv_tree.specs.declared.content.Form.TheVariants.{Nothing, Payload, Family}

-- The payload and the children of each form. Most slots have neither.
abbrev pub content_in : Form → Content
content_in Nothing = record { payload = []; children = fin.empty }
content_in (Payload apart) = record { payload = apart.value; children = fin.empty }
content_in (Family apart) = record { payload = apart.value.payload; children = apart.value.children }
