use Rattle.pal_asm.proofs.ByteLemmas.{one_within, failed, done_kept, done_lost, done_outside}
use Rattle.pal_asm.proofs.statement.bytes_of.Goals as goal

pub returns-in_default-byte_of : goal.returns-in_default-byte_of
returns-in_default-byte_of c =
    failed c.args.text.now c.pieces.are_in_range c.pieces.invariant.0 c.pieces.rest
    c.split_comma.result.1 c.in-Some.pieces c.split_comma.result.0.now
    c.pieces.invariant.1 c.in-Some.is c.split_comma.ensures.pieces c.in_default-byte_of.ensures

pub pieces-preserved-in-Within : goal.pieces-preserved-in-Within
pieces-preserved-in-Within c =
    one_within c.args.text.now c.pieces.are_in_range c.pieces.invariant.0 c.pieces.bytes.bytes
    c.keep-is_room.new.bytes.bytes c.pieces.is_room c.keep-is_room.result
    c.pieces.rest c.split_comma.result.1 c.in-Some.pieces c.split_comma.result.0.now
    c.in-Some-byte_of.byte c.in-Within.byte
    c.pieces.invariant.1 c.pieces.invariant.2 c.in-Some.is c.split_comma.ensures.pieces
    c.in-Some-byte_of.ensures c.in-Within.is c.keep-is_room.ensures

pub returns-then-not-are_in_range : goal.returns-then-not-are_in_range
returns-then-not-are_in_range c =
    done_outside c.args.text.now c.pieces.are_in_range c.pieces.invariant.0 c.pieces.rest
    c.pieces.invariant.1 c.in_default.is c.if-not-are_in_range.true

pub returns-then-is_room : goal.returns-then-is_room
returns-then-is_room c =
    done_kept c.args.text.now c.pieces.are_in_range c.pieces.invariant.0 c.pieces.bytes.bytes
    c.pieces.is_room c.pieces.rest c.pieces.invariant.1 c.pieces.invariant.2
    c.in_default.is c.if-not-are_in_range.false c.if-is_room.true

pub returns-else-is_room : goal.returns-else-is_room
returns-else-is_room c =
    done_lost c.args.text.now c.pieces.are_in_range c.pieces.invariant.0 c.pieces.rest
    c.pieces.invariant.1 c.in_default.is c.if-not-are_in_range.false
