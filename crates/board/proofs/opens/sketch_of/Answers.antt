use Rattle.std.proofs.Common.{◌-◌, ◌^◌, length}
use Rattle.std.proofs.lemmas.Nat.{pow_pos}
use Rattle.board.proofs.Opened.{narrow_after}
use Rattle.board.proofs.opens.sketch_of.Goals as goal

pub invariant_of-result : goal.invariant_of-result
invariant_of-result c =
    let fits = c.requires.fits in
    record {
      some_window = fits.some_window;
      some_fineness = fits.some_fineness;
      fineness_range = fits.fineness;
      bits_range = fits.bits;
      some_row = fits.some_row;
      rows_range = fits.rows;
      spread_range = fits.spread;
      words_fit = narrow_after (2 ^ c.args.asked.spread) c.args.words.now (440 - length c.args.words.now) c.own_words.result (pow_pos c.args.asked.spread) c.own_words.ensures.copied fits.narrow;
    }
