-- Why a command is refused, by kinds of command. A loss of power is no reply of a device: it is
-- none of these.
pub mod Register
pub mod Seed
pub mod Seal
pub mod Unseal
pub mod Random
pub mod Quote
