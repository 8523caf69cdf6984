use Rattle.std.proofs.Common.{length}
use Rattle.btree_image.specs.Image.{shape_of}
use Rattle.primary_ix.specs.Rows.{prim_layout}
use Rattle.build_job.specs.Laws.Placing.{page_below, place_of_page}
use Rattle.build_job.proofs.laws.each_page_has_a_place.Goals as goal

pub returns-clause-places : goal.returns-clause-places
returns-clause-places c job is = place_of_page (shape_of prim_layout (length job.rows)) job.plan.extent.pages is.pages

pub returns-clause-pages : goal.returns-clause-pages
returns-clause-pages c job is = page_below (shape_of prim_layout (length job.rows)) job.plan.extent.pages is.pages
