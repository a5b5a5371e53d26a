-- What is lent of the buffers, and the buffers after a call.
use Rattle.std.specs.Prelude.{cond, List, ◌++◌, ℕ, ◌%◌, eqb, get_or, take, drop, replicate}
use Rattle.abi.specs.Lengths.{state_len, pages_len, tables_len}
use Rattle.abi.specs.Places as place
use Rattle.mapping.specs.Maps.{maps}
use Rattle.protector_state.specs.declared.Reply.{Reply}
use Rattle.protector_state.specs.Reply.{finished}
use Rattle.protector_state.specs.declared.Value.{Value}
use Rattle.call_refusals.specs.Buffers as lent
use Rattle.playback.specs.declared.buffers.Buffers.{Buffers}

-- layouts end at page 512: the bytes of a map
abbrev pub map_bytes : ℕ
map_bytes = 64

-- the longest output of a query, and a byte of it that no call wrote
abbrev pub out_bytes : ℕ
out_bytes = 520

abbrev pub unwritten : ℕ
unwritten = 0xa5

-- a call is answered so often at most
abbrev pub answers : ℕ
answers = 8192

-- the codes of a failed operation are below it
abbrev pub codes : ℕ
codes = 65536

-- how many bytes of each permission map are lent: all where permissions are tracked, else none
abbrev pub bytes_if : ℕ → ℕ
bytes_if tracked = cond (eqb tracked 1) map_bytes 0

abbrev pub bytes_in : Buffers → ℕ
bytes_in buffers = bytes_if (get_or buffers.state place.tracked 0)

-- what is lent, n bytes of each permission map
abbrev pub lent_of : ℕ → Buffers → lent.Buffers
lent_of n buffers =
    lent.buffers (maps buffers.private buffers.shared (take n buffers.read) (take n buffers.write) (take n buffers.kernel) (take n buffers.user)) buffers.state buffers.pages buffers.tables

-- after a call that was lent so: what was lent as it is then, and the reply
abbrev pub after : ℕ → Buffers → lent.Outcome → Buffers
after n buffers o =
    record {
      private = o.buffers.maps.private;
      shared = o.buffers.maps.shared;
      read = o.buffers.maps.permissions.read ++ drop n buffers.read;
      write = o.buffers.maps.permissions.write ++ drop n buffers.write;
      kernel = o.buffers.maps.permissions.kernel ++ drop n buffers.kernel;
      user = o.buffers.maps.permissions.user ++ drop n buffers.user;
      state = o.buffers.state;
      pages = o.buffers.pages;
      tables = o.buffers.tables;
      reply = o.reply;
      asked = buffers.asked;
    }

-- another state block, other tables, reply and digest
abbrev pub with_these : Buffers → List ℕ → List ℕ → Reply → ℕ → Buffers
with_these buffers state tables r h =
    record {
      private = buffers.private;
      shared = buffers.shared;
      read = buffers.read;
      write = buffers.write;
      kernel = buffers.kernel;
      user = buffers.user;
      state = state;
      pages = buffers.pages;
      tables = tables;
      reply = r;
      asked = h;
    }

-- a reply, and an answer that is one value, as a reply with the value in the place of the index
abbrev pub replied : Buffers → Reply → Buffers
replied buffers r = with_these buffers buffers.state buffers.tables r buffers.asked

abbrev pub valued : Buffers → Value → Buffers
valued buffers v = replied buffers (finished v.number 0 v.value 0)

abbrev pub with_asked : Buffers → ℕ → Buffers
with_asked buffers h = with_these buffers buffers.state buffers.tables buffers.reply h

-- before the first build
abbrev pub no_buffers : Buffers
no_buffers =
    record {
      private = replicate map_bytes 0;
      shared = replicate map_bytes 0;
      read = replicate map_bytes 0;
      write = replicate map_bytes 0;
      kernel = replicate map_bytes 0;
      user = replicate map_bytes 0;
      state = replicate state_len 0;
      pages = replicate pages_len 0;
      tables = replicate tables_len 0;
      reply = finished 0 0 0 0;
      asked = 0;
    }

-- a recorded code as the entries take it
abbrev pub code_of : ℕ → ℕ
code_of code = code % codes
