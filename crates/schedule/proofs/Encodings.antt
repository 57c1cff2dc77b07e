-- The bytes of records one behind the other. Assumes nothing.
use Rattle.std.proofs.Common.{◌≡◌, ℕ, ◌+◌, ◌<◌, List, [], ◌++◌, length, get_or, take, sym, ap, ◌∙◌}
use Rattle.std.proofs.lemmas.Grind.{flat_map-append}
use Rattle.std.proofs.lemmas.List.{flat_map_more, take_more}
use Rattle.schedule.specs.declared.record.Record.{Record}
use Rattle.schedule.specs.Records.{bytes, encoded}

pub encoded_append : (rs more : List Record) → encoded (rs ++ more) ≡ encoded rs ++ encoded more
encoded_append rs more = flat_map-append bytes rs more

pub encoded_more : (rs : List Record) (i : ℕ) (d : Record) → i < length rs → encoded (take (i + 1) rs) ≡ encoded (take i rs) ++ bytes (get_or rs i d)
encoded_more rs i d inside = ap encoded (take_more rs i d inside) ∙ sym (flat_map_more bytes [] (take i rs) (get_or rs i d))
