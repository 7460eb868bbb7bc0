use Rattle.std.proofs.Common.{◌≡◌, ◌+◌, ◌++◌, take, vec_len, vec_capacity}
use Rattle.flk_base.proofs.buffer.append_reserved.Given as goal

-- the bytes before the index are appended, in place
abbrev pub invariant-loop-byte : goal.invariant-loop-byte
invariant-loop-byte l =
    (l.items.items ≡ l.fn.items.items ++ take l.byte-index l.bytes)
    × (vec_len l.items ≡ vec_len l.fn.items + l.byte-index)
    × (vec_capacity l.items ≡ vec_capacity l.fn.items)
