use Rattle.std.proofs.Common.{◌+◌, ◌++◌, ◌∷◌, [], refl, arith, rules}
use Rattle.arraystring_core.specs.Layout.{string_in}
use Rattle.arraystring_core.proofs.SpanLemmas.{StoredAt}
use Rattle.arraystring_core.proofs.AppendLemmas.{char-appended_at_front}
use Rattle.arraystring_core.proofs.array_string.ArrayString.compact_and_push_char.Given as given
use Rattle.arraystring_core.proofs.array_string.ArrayString.compact_and_push_char.Goals as goal

pub shift_on_cold_path-requires : goal.shift_on_cold_path-requires
shift_on_cold_path-requires g c =
    (search rules, (omega (arith, c.requires.in_array.within), (omega (arith, c.requires.in_array.within), omega (arith, c.requires.in_array.within))))

pub encode-requires : goal.encode-requires
encode-requires g c = (search rules, omega (arith, c.requires.room))

-- what is then in the array
written : (g : given.Over) (c : goal.After-encode g)
    → StoredAt g.row.N c.encode.new.array 0 (c.args.size + c.encode.result) ((string_in c.args.array.now c.args.start c.args.size).text ++ c.args.ch ∷ [])
written g c =
    char-appended_at_front c.requires.in_array refl c.args.ch (search rules) c.encode.ensures.width c.requires.room
    c.shift_on_cold_path.ensures.bytes c.encode.ensures.bytes

pub returns : goal.returns
returns g c = record { in_array = (written g c).in_array; text = (written g c).shown }
