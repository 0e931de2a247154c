-- Every theorem that paper's Claims states, from the crate that proves it.
use Rattle.paper.specs.Claims.{Claims}
use Rattle.numbers.proofs.Rules.{rules}
use Rattle.numbers.proofs.Fractions.{no_rounding}
use Rattle.mesh.proofs.Theorems.{manifold}
use Rattle.surface.proofs.Eights.{plain_points}
use Rattle.borders.proofs.Ranges.{ranges, every_border}
use Rattle.borders.proofs.Theorem.{demand3}
use Rattle.borders.proofs.FromC.{from_c}
use Rattle.accuracy.proofs.Theorem.{accuracy}
use Rattle.mirror.proofs.Theorem.{mirrors}
use Rattle.paper.proofs.Claim.{examples}
use Rattle.floats.proofs.Theorems.{far_pairs, float_sums, one_answer}
use Rattle.borders.proofs.Nets.{nets_pass}
use Rattle.nesting.proofs.Theorems.{chains_decide, each_chain, listing_ordered, one_listing}
use Rattle.irregular.proofs.Theorems.{lines_agree}
use Rattle.dms_lists.proofs.Theorems.{version_one}
use Rattle.claims.proofs.Plain.{plain_passes}
use Rattle.rearrange.proofs.laws.Theorems.{numbers_return, bytes_return}
use Rattle.off_examples.proofs.Theorems.{no_six, missing_word, whole_text}
use Rattle.preview.proofs.Theorems.{as_building, previews_build, previews_from_c}
use Rattle.touching.proofs.Untouched.{untouched}
use Rattle.sampling.proofs.Theorems.{samples_close, rays_agree, sample_ends, samples_between, triangles_sample}
use Rattle.strips.proofs.Strips.{plain_strips}
use Rattle.closing.proofs.Calls.{surface_closes, points_used, points_sample, ranges_join, counts_serve}
use Rattle.closing.proofs.FromC.{triangles_from_c, counts_from_c, tangents_from_c}
use Rattle.net_tangents.proofs.Sizes.{tangents_within}
use Rattle.sampling.proofs.TangentLaws.{tangents_close}
use Rattle.turning.proofs.Theorems.{turned_passes, turns_decide, one_choice, turned_twice, turned_back, nothing_turned, none_farther}
use Rattle.turning.proofs.Listing.{listing_rises}
use Rattle.border_report.proofs.page_laws.Once.{borders_once}
use Rattle.border_report.proofs.page_laws.Runs.{runs_pass, runs_sum, misses_within, order_free, parts_merge}
use Rattle.border_report.proofs.page_laws.Refusals.{refused_adds}

pub claims : Claims
claims = record {
  demanded = record {
    rules = rules;
    demand3 = demand3;
    examples = examples;
    float_sums = float_sums;
    far_pairs = far_pairs;
    mirrors = mirrors;
    listing_ordered = listing_ordered;
    chains_decide = chains_decide;
    each_chain = each_chain;
    missing_word = missing_word;
    lines_agree = lines_agree;
    version_one = version_one;
    plain_points = plain_points;
    as_building = as_building;
    accuracy = accuracy;
    numbers_return = numbers_return;
    samples_close = samples_close;
    one_choice = one_choice;
    listing_rises = listing_rises;
    turned_passes = turned_passes;
    turns_decide = turns_decide;
    borders_once = borders_once;
    runs_sum = runs_sum;
    refused_adds = refused_adds;
    runs_pass = runs_pass;
  };
  further = record {
    manifold = manifold;
    ranges = ranges;
    every_border = every_border;
    from_c = from_c;
    one_answer = one_answer;
    nets_pass = nets_pass;
    one_listing = one_listing;
    no_six = no_six;
    whole_text = whole_text;
    plain_passes = plain_passes;
    previews_build = previews_build;
    previews_from_c = previews_from_c;
    untouched = untouched;
    no_rounding = no_rounding;
    bytes_return = bytes_return;
    rays_agree = rays_agree;
    sample_ends = sample_ends;
    samples_between = samples_between;
    triangles_sample = triangles_sample;
    turned_twice = turned_twice;
    turned_back = turned_back;
    nothing_turned = nothing_turned;
    none_farther = none_farther;
    misses_within = misses_within;
    order_free = order_free;
    parts_merge = parts_merge;
    surface_closes = surface_closes;
    points_used = points_used;
    points_sample = points_sample;
    plain_strips = plain_strips;
    ranges_join = ranges_join;
    counts_serve = counts_serve;
    triangles_from_c = triangles_from_c;
    counts_from_c = counts_from_c;
    tangents_from_c = tangents_from_c;
    tangents_close = tangents_close;
    tangents_within = tangents_within;
  };
}
