-- The digest of what a call leaves: maps, settings and tables (crates/replay/README.md, "What is compared").
use Rattle.std.specs.Prelude.{cond, ℕ, eqb, get_or}
use Rattle.abi.specs.Places as place
use Rattle.recording.specs.Digest.{start, digest_word, digest_of}
use Rattle.playback.specs.declared.buffers.Buffers.{Buffers}

abbrev pub marks_of : Buffers → ℕ
marks_of buffers = digest_of (digest_of start buffers.private) buffers.shared

abbrev pub permissions_of : ℕ → Buffers → ℕ
permissions_of h buffers = digest_of (digest_of (digest_of (digest_of h buffers.read) buffers.write) buffers.kernel) buffers.user

-- two maps, or six where permissions are tracked
unfoldable pub maps_of : Buffers → ℕ
maps_of buffers = cond (eqb (get_or buffers.state place.tracked 0) 1) (permissions_of (marks_of buffers) buffers) (marks_of buffers)

abbrev pub left_of : Buffers → ℕ
left_of buffers =
    digest_of (digest_word (digest_word (digest_word (maps_of buffers) (get_or buffers.state place.enabled 0)) (get_or buffers.state place.default0 0)) (get_or buffers.state place.default1 0)) buffers.tables
