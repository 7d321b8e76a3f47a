-- Values of the definitions, computed: the one block of an empty body, from the head to the check.
use Rattle.std.specs.Prelude.{◌≡◌, refl, [], ◌∷◌, take, drop}
use Rattle.digest.specs.Md5.{step_of, word, steps, block_of, le, padded, blocks, output_of, digest_of}
use Rattle.archive.specs.Block.{checked, block}
use Rattle.archive.specs.Writing.{block_count, blocks_from, blocks_of}

pub empty-head : take 8 (blocks_of []) ≡ 0x80 ∷ 0x00 ∷ 0x00 ∷ 0x00 ∷ 0x00 ∷ 0x00 ∷ 0x00 ∷ 0x00 ∷ []
unfolding checked block block_count blocks_from blocks_of
empty-head = refl

pub empty-check : drop 496 (blocks_of [])
    ≡ 0xa5 ∷ 0x6b ∷ 0xda ∷ 0x92 ∷ 0xd5 ∷ 0x16 ∷ 0xe0 ∷ 0x07 ∷ 0xf4 ∷ 0x07 ∷ 0x16 ∷ 0x39 ∷ 0xf0 ∷ 0x35 ∷ 0xdd ∷ 0x01 ∷ []
unfolding step_of word steps block_of le padded blocks output_of digest_of checked block block_count blocks_from blocks_of
empty-check = refl
