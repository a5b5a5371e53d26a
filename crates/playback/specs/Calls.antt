-- A recorded call, as what the entry of its kind gives (crates/replay/README.md, "The file").
use Rattle.std.specs.Prelude.{cond, List, ℕ, min, eqb, ltb, take, replicate}
use Rattle.mapping.specs.Maps.{Maps}
use Rattle.protector_state.specs.declared.Value.{Value}
use Rattle.queries.specs.Queries.{Query, query_of, fault_in, lower_in, access_in}
use Rattle.call_refusals.specs.Buffers as lent
use Rattle.protector.specs.Calls as protector
use Rattle.protection_entries.specs.Calls.{default_of, protection_of}
use Rattle.overlay_entries.specs.Calls.{is_overlay_in, unregister_of, register_of}
use Rattle.lock_entries.specs.Calls.{Kept, lock_of, unlock_of}
use Rattle.setting_entries.specs.Calls.{Enabled, enable_of, enabled_in, default_in}
use Rattle.recording.specs.Digest.{digest_of}
use Rattle.recording.specs.Kinds as kind
use Rattle.playback.specs.declared.buffers.Buffers.{Buffers}
use Rattle.playback.specs.declared.buffers.Call.{Call}
use Rattle.playback.specs.Buffers.{out_bytes, unwritten, bytes_if, bytes_in, lent_of, after, with_these, valued}

-- ---- build, and the calls that ask for operations

abbrev pub build_of : Buffers → Call → List ℕ → Buffers
build_of buffers c ram = after (bytes_if c.b) buffers (protector.build_of (lent_of (bytes_if c.b) buffers) ram c.a c.b c.c)

-- kinds 1 to 5
unfoldable pub change_in : lent.Buffers → Call → List ℕ → lent.Outcome
change_in buffers c l =
    cond (eqb c.kind kind.change_host_visibility) (protector.visibility_of buffers c.a c.b l)
    (cond (eqb c.kind kind.change_vtl_protections) (protection_of buffers c.a c.b l)
    (cond (eqb c.kind kind.change_default_vtl_protections) (default_of buffers c.a c.b)
    (cond (eqb c.kind kind.register_overlay_page) (register_of buffers c.a c.b c.c c.d c.e) (unregister_of buffers c.a c.b))))

abbrev pub change_of : Buffers → Call → List ℕ → Buffers
change_of buffers c l = after (bytes_in buffers) buffers (change_in (lent_of (bytes_in buffers) buffers) c l)

-- ---- the others

abbrev pub kept_in : Buffers → Kept → Buffers
kept_in buffers k = with_these buffers buffers.state k.tables k.reply buffers.asked

abbrev pub enabled_of : Buffers → Enabled → Buffers
enabled_of buffers e = with_these buffers e.state buffers.tables e.reply buffers.asked

-- the output goes into the digest
abbrev pub queried_of : Buffers → Query → Buffers
queried_of buffers q = with_these buffers buffers.state buffers.tables q.reply (digest_of buffers.asked q.out)

-- the output before a query, of the length that the call names
abbrev pub out_of : Call → List ℕ
out_of c = take (min c.a out_bytes) (replicate out_bytes unwritten)

-- kinds 9 and 10
abbrev pub setting_of : List ℕ → Call → Value
setting_of s c = cond (eqb c.kind kind.vtl1_protections_enabled) (enabled_in s) (default_in s)

-- kinds 13 to 15
unfoldable pub look_value : List ℕ → Maps → Call → Value
look_value s m c =
    cond (eqb c.kind kind.page_fault) (fault_in s m c.a c.b c.c c.d c.e)
    (cond (eqb c.kind kind.query_lower_vtl_permissions) (lower_in s m c.a c.b) (access_in s m c.a))

abbrev pub look_of : Buffers → Call → Buffers
look_of buffers c = valued buffers (look_value buffers.state (lent_of (bytes_in buffers) buffers).maps c)

-- a call that is no build
unfoldable pub call_of : Buffers → Call → List ℕ → Buffers
call_of buffers c l =
    cond (ltb c.kind kind.lock_gpns) (change_of buffers c l)
    (cond (eqb c.kind kind.lock_gpns) (kept_in buffers (lock_of buffers.state buffers.tables c.a l))
    (cond (eqb c.kind kind.unlock_gpns) (kept_in buffers (unlock_of buffers.state buffers.tables c.a l))
    (cond (eqb c.kind kind.set_vtl1_protections_enabled) (enabled_of buffers (enable_of buffers.state))
    (cond (ltb c.kind kind.is_overlay_page) (valued buffers (setting_of buffers.state c))
    (cond (eqb c.kind kind.is_overlay_page) (valued buffers (is_overlay_in buffers.state buffers.tables c.a c.b))
    (cond (eqb c.kind kind.query_host_visibility) (queried_of buffers (query_of buffers.state buffers.shared l (out_of c))) (look_of buffers c)))))))
