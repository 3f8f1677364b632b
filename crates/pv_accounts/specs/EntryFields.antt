-- The fields of each kind of entry, in the order of the line (passwd(5), group(5), shadow(5)).
use Rattle.std.specs.Prelude.{ℕ, List, [], ◌∷◌}
use Rattle.pv_accounts.specs.declared.entry.GroupEntry.{GroupEntry}
use Rattle.pv_accounts.specs.declared.entry.PasswdEntry.{PasswdEntry}
use Rattle.pv_accounts.specs.declared.entry.ShadowEntry.{ShadowEntry}

-- The fields of an entry of /etc/passwd.
abbrev pub passwd_fields : PasswdEntry → List (List ℕ)
passwd_fields e = e.name.now ∷ e.password.now ∷ e.uid.now ∷ e.gid.now ∷ e.gecos.now ∷ e.home.now ∷ e.shell.now ∷ []

-- The fields of an entry of /etc/group.
abbrev pub group_fields : GroupEntry → List (List ℕ)
group_fields e = e.name.now ∷ e.password.now ∷ e.gid.now ∷ e.members.now ∷ []

-- The fields of an entry of /etc/shadow.
abbrev pub shadow_fields : ShadowEntry → List (List ℕ)
shadow_fields e =
    e.name.now ∷ e.password.now ∷ e.changed.now ∷ e.least.now ∷ e.most.now ∷ e.warn.now ∷ e.inactive.now ∷ e.expire.now ∷ e.reserved.now ∷ []
