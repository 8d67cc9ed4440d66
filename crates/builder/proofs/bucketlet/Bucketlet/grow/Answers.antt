-- `builder::bucketlet::Bucketlet::grow` meets its contract. The first widths are those up to the smaller limit; if they all fit, growth goes on from there.
-- Assumes nothing.
use native.Mathlib.Omega.{arith}
use Rattle.build_bounds.proofs.GrowLaws.{fits_wider}
use Rattle.builder.proofs.bucketlet.Bucketlet.grow.Goals as goal

pub width_from-requires : goal.width_from-requires
width_from-requires c =
    let g = c.first_widths-known.ensures in
    record {
      fits_to =
          fits_wider c.args.self.now.q c.args.self.now.freqs.now c.args.self.now.first c.args.self.now.growable.sound c.min.result c.args.self.now.most c.first_widths-known.result.reached
          (omega (arith, c.min.ensures)) g.fits_to;
      seen = g.seen;
    }
