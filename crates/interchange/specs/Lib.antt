pub mod OfferTable
pub mod Offers
