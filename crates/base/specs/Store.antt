-- A lent store.
use Rattle.base.specs.declared.Short.{Short}

-- The error of a writer whose store is too short.
abbrev pub short : Short
short = record {}
